-- Who a request comes from, as far as replies differ by it: a client of Subversion names itself.
use Rattle.std.specs.Prelude.{ℕ, nat_eq, Bool, List, codes, Option, None, Some, not, if◌then◌else◌}
use Rattle.std.specs.List.{filter, starts_with}
use Rattle.dsv_base.specs.declared.field.Field.{Field}
use Rattle.http_front.specs.Fields.{is_named, first_named}
use Rattle.http_front.specs.declared.request.Request.{Request}
use Rattle.dav_replies.specs.declared.client.Client.{Client}
use Rattle.dav_replies.specs.declared.client.Client.TheVariants.{Plain, Guest}

-- a client of Subversion is known by how it names itself, as mod_dav_svn knows it: `SVN/`, and whatever follows
abbrev pub client_called : List ℕ → Client
client_called value = if starts_with nat_eq value (codes "SVN/") then Guest else Plain

-- the client by the field's value, if there is one
abbrev pub client_by : Option (List ℕ) → Client
client_by None = Plain
client_by (Some value) = client_called value

-- the client that a request comes from, by the first of its fields User-Agent (RFC 9110, section 10.1.5)
unfoldable pub client_of : Request → Client
client_of request = client_by (first_named (codes "User-Agent") request.fields)

-- ---- a request that doesn't say who it comes from

-- the field isn't one by which a client names itself
abbrev pub names_no_client : Field → Bool
names_no_client field = not (is_named (codes "User-Agent") field)

-- the request without what names its client
abbrev pub without_agent : Request → Request
without_agent request = record {
  method = request.method;
  target = request.target;
  fields = filter names_no_client request.fields;
  login = request.login;
  body = request.body;
  last = request.last;
}
