-- A name that is wanted, looked up once.
use Rattle.std.specs.Prelude.{◌≡◌, Option}
use Rattle.dsv_base.specs.declared.prop_name.PropName.{PropName}
use Rattle.prop_values.specs.PropTags.{PropTag, tag_of}
use Rattle.prop_values.specs.LiveNames.{live_named}
use Rattle.prop_values.specs.declared.live.Live.{Live}

-- this is the live property of the name, if there is one, and this its tag
pub record IsLookedUp (name : PropName) (found : Option Live) (tag : PropTag) : Type 0 where
  pub live : found ≡ live_named name
  pub tagged : tag ≡ tag_of name
