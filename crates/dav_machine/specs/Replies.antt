-- The replies that tell content.
use Rattle.std.specs.Prelude.{ℕ, true, List, [], ◌∷◌, codes}
use Rattle.dsv_base.specs.declared.field.Field.{Field}
use Rattle.dsv_base.specs.declared.reply.Reply.{Reply}
use Rattle.dav_replies.specs.Replies.{field_of}

-- the field Content-Type
abbrev pub content_type : List ℕ → Field
content_type value = field_of (codes "Content-Type") value

-- content of a media type
unfoldable pub content_reply : List ℕ → List ℕ → Reply
content_reply media content = record { status = 200; fields = content_type media ∷ []; content = content; has_content = true }

-- the media type of a directory's page
abbrev pub html_type : List ℕ
html_type = codes "text/html; charset=\"utf-8\""
