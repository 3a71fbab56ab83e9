-- The body of a PROPFIND (RFC 4918, sections 9.1 and 14.20).
use Rattle.std.specs.Prelude.{ℕ, ◌+◌, Bool, cond, ◌||◌, List, Option, Some, None, Result, Ok, Err, map, length, nat_le, codes}
use Rattle.std.specs.List.{filter}
use Rattle.dsv_base.specs.declared.prop_name.PropName.{PropName}
use Rattle.dsv_base.specs.declared.form.Form.TheVariants as forms
use Rattle.dav_elements.specs.declared.elem.Elem.{Elem}
use Rattle.dav_bodies.specs.declared.body.Wanted.TheVariants.{All, These}
use Rattle.dav_bodies.specs.declared.body.Body.TheVariants as bodies
use Rattle.dav_bodies.specs.declared.body_fault.BodyFault.{BodyFault}
use Rattle.dav_bodies.specs.declared.body_fault.BodyFault.TheVariants.{BadBody}
use Rattle.dav_bodies.specs.declared.said.Said.{Said}
use Rattle.dav_bodies.specs.declared.said.Said.TheVariants.{Asks, Leaves}
use Rattle.dav_bodies.specs.Elements.{elements_in, is_dav, name_of_elem, only_one, size_of_all, items_before}

-- the element says what is asked for: `prop`, `allprop` or `propname`
abbrev pub is_ask : Elem → Bool
is_ask e = is_dav (codes "prop") e || is_dav (codes "allprop") e || is_dav (codes "propname") e

-- properties by name, at most 1,000 of them, in their order and with doubles; more are a bad body
abbrev pub these_asked : List PropName → Result Said BodyFault
these_asked names = cond (nat_le (length names) 1000) (Ok (Asks (bodies.Propfind (These names)))) (Err BadBody)

-- how many elements begin in a root before the one that says what is asked for: the root itself, and all that stand before that one
abbrev pub begun_before_ask : Elem → ℕ
begun_before_ask root = 1 + size_of_all (items_before is_ask (elements_in root.parts))

-- what a root says by the element in it that says what is asked for: `prop` the properties with the names of the elements in it, `allprop` all, and `propname` the names of properties, a form that is left out
abbrev pub said_by : Elem → Elem → Result Said BodyFault
said_by root e = cond (is_dav (codes "prop") e) (these_asked (map name_of_elem (elements_in e.parts)))
    (cond (is_dav (codes "allprop") e) (Ok (Asks (bodies.Propfind All)))
    (Ok (Leaves (record { form = forms.Propname; begun = begun_before_ask root }))))

-- what a root says by the one element that says it; without one the body is bad
abbrev pub said_once : Elem → Option Elem → Result Said BodyFault
said_once root None = Err BadBody
said_once root (Some e) = said_by root e

-- what a PROPFIND's root says: one element in it says what is asked for, and no second; all others are left out of account
abbrev pub propfind_said : Elem → Result Said BodyFault
propfind_said root = said_once root (only_one (filter is_ask (elements_in root.parts)))
