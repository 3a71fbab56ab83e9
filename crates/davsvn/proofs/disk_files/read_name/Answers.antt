-- a name that was taken for a text is one
use Rattle.std.proofs.lemmas.Str.{is_utf8-from_IsUtf8}
use Rattle.davsvn.proofs.disk_files.read_name.Goals as goal

pub returns-in-Ok-clause-text : goal.returns-in-Ok-clause-text
returns-in-Ok-clause-text g c no_text =
    let text = is_utf8-from_IsUtf8 c.args.name.now c.in-Ok.ensures.cases.1 in cc
