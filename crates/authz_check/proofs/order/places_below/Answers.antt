use Rattle.std.proofs.Common.{◌≡◌, [], ◌∷◌, ◌++◌, ◌⊎◌, inl, inr, ap, sym, ◌∙◌}
use Rattle.std.specs.Ordering.{is_lt}
use Rattle.std.specs.Str.{bytes_eq}
use Rattle.std.specs.List.{Contains}
use Rattle.authz_check.specs.Order.{rule_path}
use Rattle.authz_check.proofs.Under.{ways, GoesOn}
use Rattle.authz_check.proofs.Ordered.{order, not_before_below, before_neighbours}
use Rattle.authz_check.proofs.order.places_below.Goals as goal

pub returns : goal.returns
returns c i there under other = pick (ways (rule_path c.args.rules.now i) c.args.path.now under other)
  where
    pick : (c.args.path.now ≡ 47 ∷ []) ⊎ GoesOn (rule_path c.args.rules.now i) c.args.path.now → Contains c.places_between.result.now i
    pick (inl root) = absurd (cc (sym c.if-eq.false ∙ c.eq.ensures ∙ ap (λ t. bytes_eq t c.as_slice.result.now) (c.text-text.ensures.text ∙ root) ∙ ap (bytes_eq (47 ∷ [])) c.as_slice.ensures))
    pick (inr more) =
        c.places_between.ensures i there
        (ap (λ t. is_lt (order (rule_path c.args.rules.now i) (t ++ 47 ∷ []))) c.text-text.ensures.text ∙ not_before_below c.args.path.now (rule_path c.args.rules.now i) more.rest more.is)
        (ap (λ t. is_lt (order (rule_path c.args.rules.now i) (t ++ 48 ∷ []))) c.text-text.ensures.text ∙ before_neighbours c.args.path.now (rule_path c.args.rules.now i) more.rest more.is)
