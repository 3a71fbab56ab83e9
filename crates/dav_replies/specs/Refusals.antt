-- How a refusal is told: the document, the reply and its bytes.
use Rattle.std.specs.Prelude.{ℕ, Bool, List, [], ◌∷◌, ◌++◌, codes, Option, Some, None, ◌&&◌, ◌||◌, not, true}
use Rattle.std.specs.Fmt.{decimal}
use Rattle.hex.specs.Hex.{encode_lower}
use Rattle.dav_documents.specs.declared.namespace.Namespace.TheVariants.{Dav, ApacheDav}
use Rattle.dav_documents.specs.Namespaces.{uri_of}
use Rattle.dav_documents.specs.Written.{Written, Nothing, attribute, binding, empty_element, text_element, element, joined, body_text}
use Rattle.dsv_base.specs.declared.field.Field.{Field}
use Rattle.dsv_base.specs.declared.reply.Reply.{Reply}
use Rattle.dav_replies.specs.declared.client.Client.{Client}
use Rattle.dav_replies.specs.declared.refusal.Refusal.{Refusal}
use Rattle.dav_replies.specs.declared.refusal.Refusal.TheVariants.{NeedsLogin, InfiniteDepth, NoRevision, WrongMethod, Exists, OutOfDate, Conflict, WrongText, Locked, NotInProfile}
use Rattle.dav_replies.specs.Methods.{allow_list}
use Rattle.dav_replies.specs.Tables.{row_of, form_name, code_for}
use Rattle.dav_replies.specs.Replies.{field_of, xml_type, reply_text}

-- the sum that was told and that of the text, in hexadecimal
abbrev pub sums_text : List ℕ → List ℕ → List ℕ
sums_text told got = codes "told " ++ encode_lower told ++ codes ", got " ++ encode_lower got

-- what a refusal tells beside its name
abbrev pub detail_of : Refusal → Option (List ℕ)
detail_of (NoRevision rev) = Some (decimal rev)
detail_of (OutOfDate created) = Some (decimal created)
detail_of (Conflict path) = Some path
detail_of (Locked path) = Some path
detail_of (NotInProfile form) = Some (form_name form)
detail_of (WrongText told got) = Some (sums_text told got)
detail_of _ = None

-- the detail behind the name
abbrev pub after_name : Option (List ℕ) → List ℕ
after_name None = []
after_name (Some detail) = codes ": " ++ detail

-- the text for the reader: the name, and the detail if there is one
abbrev pub text_of : Refusal → List ℕ
text_of refusal = (row_of refusal).name ++ after_name (detail_of refusal)

-- the condition that failed, where there is a name for it (RFC 4918, section 16)
abbrev pub condition_of : Refusal → Written
condition_of InfiniteDepth = empty_element (codes "D:propfind-finite-depth") []
condition_of _ = Nothing

-- the element for the reader: the code for this client as an attribute, and the text
abbrev pub human_readable : Client → Refusal → Written
human_readable client refusal = text_element (codes "m:human-readable") (attribute (codes "errcode") (decimal (code_for client refusal)) ∷ []) (text_of refusal)

-- the document that tells a client a refusal
abbrev pub error_tree : Client → Refusal → Written
error_tree client refusal =
    element (codes "D:error") (binding (codes "D") (uri_of Dav) ∷ binding (codes "m") (uri_of ApacheDav) ∷ [])
    (joined (condition_of refusal) (human_readable client refusal))

-- the bytes of that document
unfoldable pub error_text : Client → Refusal → List ℕ
error_text client refusal = body_text (error_tree client refusal)

-- who isn't logged in is asked for a login (RFC 7617); who used a wrong method is told the right ones (RFC 9110, section 15.5.6)
abbrev pub own_fields : Refusal → List Field
own_fields NeedsLogin = field_of (codes "WWW-Authenticate") (codes "Basic realm=\"davsvn\"") ∷ []
own_fields (WrongMethod kind) = field_of (codes "Allow") (allow_list kind) ∷ []
own_fields (Exists kind) = field_of (codes "Allow") (allow_list kind) ∷ []
own_fields _ = []

-- the reply that tells a client a refusal
unfoldable pub refusal_reply : Client → Refusal → Reply
refusal_reply client refusal = record {
  status = (row_of refusal).status;
  fields = own_fields refusal ++ xml_type ∷ [];
  content = error_text client refusal;
  has_content = true;
}

-- the bytes of that reply; one that ends the connection says so, and has its content whatever the method, which may not even be known
unfoldable pub refusal_bytes : Client → Refusal → Bool → Bool → List ℕ
refusal_bytes client refusal head_only last =
    reply_text (refusal_reply client refusal) (head_only && not (row_of refusal).closing) (last || (row_of refusal).closing)
