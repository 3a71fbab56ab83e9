use Rattle.std.proofs.Common.{rules, ap, ◌≡◌, [], ◌∷◌, ◌++◌, ◌∙◌}
use Rattle.std.specs.Prelude.{codes}
use Rattle.std.specs.Fmt.{decimal}
use Rattle.dsv_base.specs.declared.field.Field.{Field}
use Rattle.dav_replies.specs.declared.allow_kind.AllowKind.TheVariants as allow
use Rattle.dav_replies.specs.Replies.{field_of}
use Rattle.dav_replies.specs.Methods.{allow_list}
use Rattle.dav_machine.specs.Options.{server_fields}
use Rattle.dav_machine.proofs.Fields.{one_more, and_one}
use Rattle.dav_machine.proofs.options.put_server.Goals as goal

pub returns : goal.returns
unfolding server_fields
returns c =
    let old = c.args.fields.now.items in
    let dav : Field = field_of (codes "DAV") (codes "1,2") in
    let methods : Field = field_of (codes "Allow") (allow_list allow.Public) in
    let youngest : Field = field_of (codes "SVN-Youngest-Rev") (decimal c.args.youngest) in
    let number : c.as_bytes.result.now ≡ decimal c.args.youngest = search rules in
    let second = and_one old c.put_field.new.fields.items c.put_field-2.new.fields.items (dav ∷ []) methods c.in_ok-put_field.ensures (c.in_ok-put_field-2.ensures ∙ ap (λ value. c.put_field.new.fields.items ++ field_of (codes "Allow") value ∷ []) c.allow_list.ensures) in
    let third = and_one old c.put_field-2.new.fields.items c.put_field-3.new.fields.items (dav ∷ methods ∷ []) youngest second (c.in_ok-put_field-3.ensures ∙ ap (λ value. c.put_field-2.new.fields.items ++ field_of (codes "SVN-Youngest-Rev") value ∷ []) number) in
    one_more c.put_field-4.result old c.put_field-3.new.fields.items c.put_field-4.new.fields.items (dav ∷ methods ∷ youngest ∷ []) (field_of (codes "SVN-Repository-UUID") c.args.uuid.now) third c.put_field-4.ensures
