-- Heads that were read.
use Rattle.std.specs.Prelude.{◌≡◌, ℕ, List, map, length, take, Option, None, Some}
use Rattle.httparse.specs.Grammar.{RequestHead}
use Rattle.httparse.specs.Spans.{span_bytes}
use Rattle.httparse.specs.declared.spans.HeaderSpan.{HeaderSpan}
use Rattle.httparse.specs.declared.spans.RequestSpans.{RequestSpans}
use Rattle.dsv_base.specs.declared.field.Field.{Field}
use Rattle.http_front.specs.declared.head.Head.{Head}
use Rattle.http_front.specs.Messages.{IsHead, head_fields}

-- the field that a header line's offsets cover
abbrev pub field_at : List ℕ → HeaderSpan → Field
field_at bytes span = record { name = span_bytes bytes span.name; value = span_bytes bytes span.value }

-- the fields that the offsets of a head cover
abbrev pub fields_at : List ℕ → List HeaderSpan → RequestSpans → List Field
fields_at bytes headers spans = map (field_at bytes) (take spans.headers headers)

-- the head whose parts the offsets cover
abbrev pub head_at : List ℕ → List HeaderSpan → RequestSpans → Head
head_at bytes headers spans = record {
  len = spans.len;
  method = span_bytes bytes spans.method;
  target = span_bytes bytes spans.path;
  fields = fields_at bytes headers spans;
  minor = spans.version;
}

-- the parts are those of the head that the text is
pub record IsRead (text : List ℕ) (head : Head) : Type 0 where
  pub grammar : RequestHead
  pub is_head : IsHead text grammar
  pub len : head.len ≡ length text
  pub method : head.method ≡ grammar.method
  pub target : head.target ≡ grammar.target
  pub fields : head.fields ≡ head_fields grammar
  pub minor : head.minor ≡ grammar.minor

-- the text is no head
pub record IsNone (text : List ℕ) : Type 0 where
  pub none : (head : RequestHead) → IsHead text head → ⊥

-- the parts of the head that the text is, if it is one
abbrev pub HeadOf : List ℕ → Option Head → Type 0
HeadOf text None = IsNone text
HeadOf text (Some head) = IsRead text head
