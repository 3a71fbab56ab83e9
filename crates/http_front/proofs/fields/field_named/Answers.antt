use Rattle.std.proofs.Common.{◌∙◌, ℕ, List, sym, ap, Some, Ok}
use Rattle.http_front.proofs.NamedFields.{several_values, one_value}
use Rattle.http_front.proofs.fields.field_named.Goals as goal

pub returns-then-has_field : goal.returns-then-has_field
returns-then-has_field c =
    several_values c.args.name.now c.args.fields.now c.fields.rest.now c.field-item.result c.fields.invariant c.in-len1-up.len_at_least c.field-item.is
    (sym c.is_named.ensures ∙ c.if-not-is_named.false) (sym c.has_field.ensures ∙ c.if-has_field.true)

pub returns-in-len1-up : goal.returns-in-len1-up
returns-in-len1-up c =
    one_value c.args.name.now c.args.fields.now c.fields.rest.now c.field-item.result c.fields.invariant c.in-len1-up.len_at_least c.field-item.is
    (sym c.is_named.ensures ∙ c.if-not-is_named.false) (sym c.has_field.ensures ∙ c.if-has_field.false)
    ∙ ap (λ (value : List ℕ). Ok (Some value)) (sym c.get.ensures)
