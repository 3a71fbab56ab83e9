use Rattle.std.proofs.Common.{◌≡◌, false, ap, ◌∙◌, arith, length}
use Rattle.std.specs.List.{list_any}
use Rattle.std.specs.Str.{bytes_eq}
use Rattle.http_front.specs.UsersFile.{names}
use Rattle.http_front.proofs.NamePlaces.{places_more, distinct_more, named_more}
use Rattle.http_front.proofs.users.Users.with.Goals as goal

pub invariant_of-result : goal.invariant_of-result
invariant_of-result c =
    let fresh : list_any (bytes_eq c.args.user.name) (names c.self.inside.users.items) ≡ false = ap (λ us. list_any (bytes_eq c.args.user.name) (names us)) c.self.view_is ∙ c.requires.fresh in
    record {
      places = λ q. places_more (λ k. k.items) c.self.inside.places.entries c.insert.new.self.entries c.self.inside.users.items c.push.new.self.items c.args.user c.in_ok-name.name c.len.result
          (c.in_ok-name.ensures.items ∙ c.get.ensures) fresh (omega arith) c.in_ok-insert.ensures.entries c.in_ok-push.ensures.items q (c.self.invariant.places q);
      distinct = distinct_more c.self.inside.users.items c.push.new.self.items c.args.user fresh c.in_ok-push.ensures.items c.self.invariant.distinct;
      named = named_more c.self.inside.users.items c.push.new.self.items c.args.user c.requires.named c.in_ok-push.ensures.items c.self.invariant.named;
      few = omega (arith, ap length c.in_ok-push.ensures.items, ap length c.self.view_is, c.requires.room);
    }
