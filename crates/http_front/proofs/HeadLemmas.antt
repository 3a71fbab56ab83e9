-- What the parser's offsets say is the head that they were read from.
use Rattle.std.proofs.Common.{◌≡◌, ◌≢◌, ◌≤◌, ℕ, List, [], ◌∷◌, length, map, take, drop, ap, refl, sym, ◌∙◌, subst, arith, length-drop}
use Rattle.std.proofs.lemmas.Grind.{common_steps}
use Rattle.std.proofs.lemmas.List.{drop_all}
use Rattle.httparse.specs.Grammar.{RequestHead, Field as HeaderLine, ReadsRequest}
use Rattle.httparse.specs.Spans.{IsRequestAt, header_bytes, name_and_value}
use Rattle.httparse.specs.declared.spans.HeaderSpan.{HeaderSpan}
use Rattle.httparse.specs.declared.spans.RequestSpans.{RequestSpans}
use Rattle.httparse.proofs.GrammarLemmas.{request_unique}
use Rattle.dsv_base.specs.declared.field.Field.{Field}
use Rattle.http_front.specs.declared.head.Head.{Head}
use Rattle.http_front.specs.Fields.{field_of_line}
use Rattle.http_front.specs.Heads.{IsRead, IsNone, field_at, fields_at, head_at}

abbrev pub pair_field : List ℕ × List ℕ → Field
pair_field p = record { name = p.0; value = p.1 }

spans_fields : (bytes : List ℕ) (headers : List HeaderSpan) → map pair_field (map (header_bytes bytes) headers) ≡ map (field_at bytes) headers
spans_fields bytes [] = refl
spans_fields bytes (h ∷ hs) = ap (λ fields. field_at bytes h ∷ fields) (spans_fields bytes hs)

lines_fields : (lines : List HeaderLine) → map pair_field (map name_and_value lines) ≡ map field_of_line lines
lines_fields [] = refl
lines_fields (l ∷ ls) = ap (λ fields. field_of_line l ∷ fields) (lines_fields ls)

module _ (text : List ℕ) (headers : List HeaderSpan) (spans : RequestSpans) (h : RequestHead) (at : IsRequestAt text headers spans h) where
  -- the fields that the offsets cover are those of the head
  pub fields_of_head : fields_at text headers spans ≡ map field_of_line h.fields
  fields_of_head = sym (spans_fields text (take spans.headers headers)) ∙ ap (map pair_field) at.fields ∙ lines_fields h.fields

  reads_all : length text ≤ spans.len → ReadsRequest text h []
  reads_all all = subst (λ rest. ReadsRequest text h rest) (drop_all spans.len text all) at.reads

  few_fields : length headers ≤ 100 → length h.fields ≤ 100
  few_fields few = grind (arith, common_steps, ap length at.fields)

  pub whole_read : length headers ≤ 100 → spans.len ≡ length text → (head : Head) → head ≡ head_at text headers spans → IsRead text head
  whole_read few len head is = record {
    grammar = h;
    is_head = record { reads = reads_all (omega arith); few = few_fields few };
    len = ap (λ (q : Head). q.len) is ∙ len;
    method = ap (λ (q : Head). q.method) is ∙ at.method;
    target = ap (λ (q : Head). q.target) is ∙ at.path;
    fields = ap (λ (q : Head). q.fields) is ∙ fields_of_head;
    minor = ap (λ (q : Head). q.minor) is ∙ at.version;
  }

  -- a head with bytes after it isn't the whole text
  pub none_longer : spans.len ≤ length text → spans.len ≢ length text → IsNone text
  none_longer fits other = record {
    none = λ k is.
        let rest : drop spans.len text ≡ [] = (request_unique text h k (drop spans.len text) [] at.reads is.reads).1 in
        omega (arith, ap length rest, length-drop spans.len text);
  }
