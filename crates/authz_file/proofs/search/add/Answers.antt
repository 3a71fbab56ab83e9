use Rattle.std.proofs.Common.{◌≡◌, false, nat_eq, sym, ◌∙◌, subst}
use Rattle.std.specs.List.{list_any}
use Rattle.authz_file.specs.Searching.{IsSeen}
use Rattle.authz_file.proofs.Reach.{seen-push}
use Rattle.authz_file.proofs.search.add.Goals as goal

pub returns-clause-seen : goal.returns-clause-seen
returns-clause-seen c =
    let absent : list_any (nat_eq c.args.place) c.args.places.now.items ≡ false = sym (c.requires.0 c.args.place) ∙ sym c.contains.ensures ∙ c.if-contains.false in
    subst (λ xs. IsSeen c.insert.new.self xs) (sym c.in_ok-push.ensures.items) (seen-push c.args.seen.now c.insert.new.self c.args.places.now.items c.args.place c.requires absent c.in_ok-insert.ensures.updates.0)
