use Rattle.prop_values.proofs.contents.put_base64.Goals as goal

pub returns : goal.returns
returns c = rw c.in_ok-attribute.ensures at c.text.ensures
