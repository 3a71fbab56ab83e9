-- What may stand before all else: a byte order mark, and the declaration of XML (XML 1.0, sections 2.8 and 4.3.3).
use Rattle.std.specs.Prelude.{ℕ, Bool, false, cond, ◌&&◌, ◌||◌, List, [], ◌∷◌, Option, Some, None, option_and_then, length, drop, nat_eq, ◌==◌, codes}
use Rattle.std.specs.List.{starts_with}
use Rattle.std.specs.Str.{bytes_eq, str_eq_ignore_ascii_case}
use Rattle.dsv_base.specs.Lines.{cut_at}
use Rattle.dav_elements.specs.Names.{is_white}

-- behind a byte order mark, if there is one
unfoldable pub behind_mark : List ℕ → List ℕ
behind_mark text = cond (starts_with nat_eq text (239 ∷ 187 ∷ 191 ∷ [])) (drop 3 text) text

-- behind all white space in front
abbrev pub after_white : List ℕ → List ℕ
after_white [] = []
after_white (b ∷ bs) = cond (is_white b) (after_white bs) (b ∷ bs)

-- it begins with white space
abbrev pub begins_white : List ℕ → Bool
begins_white [] = false
begins_white (b ∷ bs) = is_white b

-- behind a word, where the text begins with it
unfoldable pub after_word : List ℕ → List ℕ → Option (List ℕ)
after_word word text = cond (starts_with nat_eq text word) (Some (drop (length word) text)) None

-- a value in single or double quotes, and what stands behind it
unfoldable pub quoted : List ℕ → Option (List ℕ × List ℕ)
quoted [] = None
quoted (b ∷ bs) = cond (b == 34 || b == 39) (cut_at b bs) None

-- a name behind white space
unfoldable pub after_name_stated : List ℕ → List ℕ → Option (List ℕ)
after_name_stated name text = cond (begins_white text) (after_word name (after_white text)) None

-- `=` with white space around it, a value in quotes, and what stands behind
unfoldable pub value_stated : List ℕ → Option (List ℕ × List ℕ)
value_stated text = option_and_then (λ behind. quoted (after_white behind)) (after_word (codes "=") (after_white text))

-- white space, the name, `=` and a value in quotes, and what stands behind
unfoldable pub stated : List ℕ → List ℕ → Option (List ℕ × List ℕ)
stated name text = option_and_then value_stated (after_name_stated name text)

-- the name comes next, behind white space or not
unfoldable pub names_next : List ℕ → List ℕ → Bool
names_next name text = starts_with nat_eq (after_white text) name

-- behind what was stated, where the value passes
abbrev pub where_stated : (List ℕ → Bool) → List ℕ × List ℕ → Option (List ℕ)
where_stated passes it = cond (passes it.0) (Some it.1) None

-- the one version
abbrev pub is_version : List ℕ → Bool
is_version value = bytes_eq value (codes "1.0")

-- the one encoding, in any case
abbrev pub is_encoding : List ℕ → Bool
is_encoding value = str_eq_ignore_ascii_case value (codes "utf-8")

-- whether a document stands alone changes nothing for its reader
abbrev pub is_yes_or_no : List ℕ → Bool
is_yes_or_no value = bytes_eq value (codes "yes") || bytes_eq value (codes "no")

-- behind the version
unfoldable pub after_version : List ℕ → Option (List ℕ)
after_version text = option_and_then (where_stated is_version) (stated (codes "version") text)

-- behind the encoding, if it is stated
unfoldable pub after_encoding : List ℕ → Option (List ℕ)
after_encoding text = cond (names_next (codes "encoding") text) (option_and_then (where_stated is_encoding) (stated (codes "encoding") text)) (Some text)

-- behind the word on standing alone, if it is stated
unfoldable pub after_standalone : List ℕ → Option (List ℕ)
after_standalone text = cond (names_next (codes "standalone") text) (option_and_then (where_stated is_yes_or_no) (stated (codes "standalone") text)) (Some text)

-- behind a declaration, from behind its `<?xml`: version, encoding and standalone in this order, and `?>`
unfoldable pub after_declaration : List ℕ → Option (List ℕ)
after_declaration text = option_and_then (λ last. after_word (codes "?>") (after_white last)) (option_and_then after_standalone (option_and_then after_encoding (after_version text)))

-- it begins with `<?xml` and white space, and so with a declaration
unfoldable pub begins_declaration : List ℕ → Bool
begins_declaration text = starts_with nat_eq text (codes "<?xml") && begins_white (drop 5 text)

-- behind the declaration, if there is one
unfoldable pub after_head : List ℕ → Option (List ℕ)
after_head text = cond (begins_declaration text) (after_declaration (drop 5 text)) (Some text)
