use Rattle.std.proofs.Common.{take, inl, subst}
use Rattle.httparse.specs.Grammar.{NeverHasChunkLine}
use Rattle.http_front.proofs.ChunkLemmas.{never_none}
use Rattle.http_front.proofs.size_lines.size_line.Goals as goal

pub returns-in-Err : goal.returns-in-Err
returns-in-Err c =
    let never : NeverHasChunkLine (take 1024 c.args.bytes.now) = subst NeverHasChunkLine c.front_bytes.ensures c.in-Err.ensures.invalid in
    (never_none (take 1024 c.args.bytes.now) never, inl never)
