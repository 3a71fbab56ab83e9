-- The reply to OPTIONS.
use Rattle.std.specs.Prelude.{ℕ, true, false, List, [], ◌∷◌, ◌++◌, codes}
use Rattle.std.specs.Fmt.{decimal}
use Rattle.dsv_base.specs.declared.field.Field.{Field}
use Rattle.dsv_base.specs.declared.reply.Reply.{Reply}
use Rattle.dav_documents.specs.declared.namespace.Namespace.TheVariants.{Dav}
use Rattle.dav_documents.specs.Namespaces.{uri_of}
use Rattle.dav_documents.specs.Written.{Written, Nothing, binding, element, body_text}
use Rattle.dav_replies.specs.declared.allow_kind.AllowKind.TheVariants as allow
use Rattle.dav_replies.specs.declared.client.Client.{Client}
use Rattle.dav_replies.specs.declared.client.Client.TheVariants.{Plain, Guest}
use Rattle.dav_replies.specs.Replies.{field_of, xml_type}
use Rattle.dav_replies.specs.Methods.{allow_list}

-- a field that tells where resources of some kind are (Subversion notes, "HTTP protocol v2")
abbrev pub stub_field : List ℕ → List ℕ → List ℕ → Field
stub_field root name stub = field_of name (root ++ stub)

-- the fields that tell where the repository is, and where it is asked as a whole
unfoldable pub root_fields : List ℕ → List Field
root_fields root = stub_field root (codes "SVN-Repository-Root") [] ∷ stub_field root (codes "SVN-Me-Resource") (codes "/!svn/me") ∷ []

-- the fields that tell where revisions are
unfoldable pub rev_fields : List ℕ → List Field
rev_fields root = stub_field root (codes "SVN-Rev-Root-Stub") (codes "/!svn/rvr") ∷ stub_field root (codes "SVN-Rev-Stub") (codes "/!svn/rev") ∷ []

-- the fields that tell where transactions are
unfoldable pub txn_fields : List ℕ → List Field
txn_fields root = stub_field root (codes "SVN-Txn-Root-Stub") (codes "/!svn/txr") ∷ stub_field root (codes "SVN-Txn-Stub") (codes "/!svn/txn") ∷ []

-- what the server is, and which revision is the youngest of which repository
unfoldable pub server_fields : List ℕ → ℕ → List Field
server_fields uuid youngest =
    field_of (codes "DAV") (codes "1,2")
    ∷ field_of (codes "Allow") (allow_list allow.Public)
    ∷ field_of (codes "SVN-Youngest-Rev") (decimal youngest)
    ∷ field_of (codes "SVN-Repository-UUID") uuid
    ∷ []

-- what the server can do, and what a client has to know of the repository
abbrev pub options_fields : List ℕ → List ℕ → ℕ → List Field
options_fields root uuid youngest = server_fields uuid youngest ++ root_fields root ++ rev_fields root ++ txn_fields root

-- the document that a client of Subversion reads from every reply to OPTIONS (RFC 3253, section 3.7): nothing is asked for,
-- and so nothing is told
abbrev pub options_tree : Written
options_tree = element (codes "D:options-response") (binding (codes "D") (uri_of Dav) ∷ []) Nothing

-- the bytes of that document
unfoldable pub options_document : List ℕ
options_document = body_text options_tree

-- the reply to OPTIONS without content, which anyone else is told
abbrev pub options_head : List Field → Reply
options_head fields = record { status = 200; fields = fields; content = []; has_content = false }

-- the reply to OPTIONS with that document
abbrev pub options_with_document : List Field → Reply
options_with_document fields = record { status = 200; fields = fields ++ xml_type ∷ []; content = options_document; has_content = true }

-- the reply to OPTIONS with these fields, as a client is told it
abbrev pub options_by : Client → List Field → Reply
options_by Plain fields = options_head fields
options_by Guest fields = options_with_document fields

-- the reply to OPTIONS
unfoldable pub options_reply : Client → List ℕ → List ℕ → ℕ → Reply
options_reply client root uuid youngest = options_by client (options_fields root uuid youngest)
