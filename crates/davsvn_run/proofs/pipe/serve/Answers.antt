use Rattle.std.proofs.Common.{refl, ◌∙◌}
use Rattle.davsvn_run.proofs.RunLemmas.{keeper_back, serves_at}
use Rattle.davsvn_run.proofs.pipe.serve.Goals as goal

pub returns : goal.returns
returns g c =
    let serves = rw (c.new-turn.ensures, c.in-Ok.ensures) at c.serve_connection-ended.ensures.says in
    let origin = rw (c.new-turn.ensures, c.in-Ok.ensures) at c.serve_connection-ended.ensures.origin in
    let back = c.end-keeper.ensures.keeper ∙ c.learn.ensures.untouched ∙ (λ i. (c.end-hub.ensures i).first_keeper) in
    serves_at _ _ _ c.world.view_is _ _ (record {
      served = (_, serves);
      read = c.serve_connection-ended.ensures.read;
      written = c.serve_connection-ended.ensures.written;
      kept = keeper_back g.P.Keeper.kept g.P.Keeper.faults _ _ _ _ _ origin back;
      files = refl;
      contents = refl;
      errors = (refl, refl, refl);
    })
