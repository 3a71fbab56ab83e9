-- The bytes of a reply (RFC 9112, section 4).
use Rattle.std.specs.Prelude.{ℕ, Bool, IsTrue, true, List, [], ◌∷◌, ◌++◌, length, ◌==◌, ◌&&◌, ◌||◌, not, codes, unwrap_or, if◌then◌else◌}
use Rattle.std.specs.List.{flat_map}
use Rattle.std.specs.Fmt.{decimal}
use Rattle.dsv_base.specs.declared.field.Field.{Field}
use Rattle.dsv_base.specs.declared.reply.Reply.{Reply}
use Rattle.dav_replies.specs.Tables.{reason_of, has_reason}

-- whether a reply can be written: its status has a reason phrase, content stands only where it is told, and
-- a 204 has none (RFC 9110, section 15.3.5)
abbrev pub is_writable : Reply → Bool
is_writable reply =
    has_reason reply.status
    && (reply.has_content || length reply.content == 0)
    && not (reply.has_content && reply.status == 204)

-- that a reply can be written
abbrev pub IsWritable : Reply → Type 0
IsWritable reply = IsTrue (is_writable reply)

-- a field by its name and its value
abbrev pub field_of : List ℕ → List ℕ → Field
field_of name value = record { name = name; value = value }

-- the field that tells the type of a body in XML
abbrev pub xml_type : Field
xml_type = field_of (codes "Content-Type") (codes "text/xml; charset=\"utf-8\"")

-- the reply whose body is this multistatus (RFC 4918, section 13)
unfoldable pub multistatus_reply : List ℕ → Reply
multistatus_reply document = record { status = 207; fields = xml_type ∷ []; content = document; has_content = true }

-- the line of a field (RFC 9112, section 5)
abbrev pub field_line : List ℕ → List ℕ → List ℕ
field_line name value = name ++ codes ": " ++ value ++ codes "\r\n"

-- a field as its line
abbrev pub field_text : Field → List ℕ
field_text field = field_line field.name field.value

-- the first line of a reply (RFC 9112, section 4)
abbrev pub status_line : ℕ → List ℕ
status_line status = codes "HTTP/1.1 " ++ decimal status ++ codes " " ++ unwrap_or (reason_of status) [] ++ codes "\r\n"

-- how long the content is, but with 204, which has none (RFC 9110, section 8.6)
abbrev pub length_line : ℕ → ℕ → List ℕ
length_line status size = if status == 204 then [] else field_line (codes "Content-Length") (decimal size)

-- what tells that the connection ends (RFC 9112, section 9.6)
abbrev pub last_line : Bool → List ℕ
last_line last = if last then field_line (codes "Connection") (codes "close") else []

-- a reply's bytes: without its content where it answers a HEAD, and telling whether it is the connection's last one
unfoldable pub reply_text : Reply → Bool → Bool → List ℕ
reply_text reply head_only last =
    status_line reply.status
    ++ flat_map field_text reply.fields
    ++ length_line reply.status (length reply.content)
    ++ last_line last
    ++ codes "\r\n"
    ++ (if head_only then [] else reply.content)
