-- What may stand between tags beside text: comments, sections of character data, processing instructions, and a document type declaration (XML 1.0, sections 2.5 to 2.8).
use Rattle.std.specs.Prelude.{ℕ, Bool, cond, ◌&&◌, ◌||◌, List, [], ◌∷◌, ◌++◌, Option, Some, None, option_and_then, nat_eq, ◌==◌, codes, ◌+◌, ◌-◌}
use Rattle.std.specs.List.{starts_with}
use Rattle.std.specs.Str.{bytes_eq}
use Rattle.dav_elements.specs.declared.progress.Progress.{Progress}
use Rattle.dav_elements.specs.Growing.{say, refer, declare}
use Rattle.dav_reading.specs.declared.mode.Aside.{Aside}
use Rattle.dav_reading.specs.declared.mode.Aside.TheVariants.{Marked, Comment, CommentDash, CommentEnd, Data, DataBracket, DataEnd, Typing, Quoted, Processing, ProcessingEnd}
use Rattle.dav_reading.specs.declared.mode.Brackets.TheVariants.{Zero}
use Rattle.dav_reading.specs.declared.mode.Mode.{Mode}
use Rattle.dav_reading.specs.declared.mode.Mode.TheVariants.{Content, Beside}
use Rattle.dav_reading.specs.declared.mode.Place.{Place}

-- this is where the reader stands next
abbrev pub now_in : Mode → Progress → Option Place
now_in mode progress = Some (record { mode = mode; progress = progress })

-- next it stands between tags, with no `]` just before
abbrev pub now_between : Progress → Option Place
now_between progress = now_in (Content Zero) progress

-- next it stands so, if the progress is one
abbrev pub then_between : Option Progress → Option Place
then_between progress = option_and_then now_between progress

-- what stands behind `<!` so far may become one of the three words
abbrev pub may_mark : List ℕ → Bool
may_mark word = starts_with nat_eq (codes "--") word || starts_with nat_eq (codes "[CDATA[") word || starts_with nat_eq (codes "DOCTYPE") word

-- the words behind `<!`: a comment begins, character data, which stands in the element alone, or a document type
abbrev pub read_mark : Progress → List ℕ → Option Place
read_mark progress word = cond (bytes_eq word (codes "--")) (now_in (Beside Comment) progress)
    (cond (bytes_eq word (codes "[CDATA[")) (option_and_then (now_in (Beside Data)) (refer progress []))
    (cond (bytes_eq word (codes "DOCTYPE")) (now_in (Beside (Typing 0)) progress)
    (cond (may_mark word) (now_in (Beside (Marked word)) progress) None)))

-- a byte of a document type, outside quotes, which stands in so many square brackets; it ends outside all of them
abbrev pub read_type : Progress → ℕ → ℕ → Option Place
read_type progress inside b = cond (b == 34 || b == 39) (now_in (Beside (Quoted inside b)) progress)
    (cond (b == 91) (now_in (Beside (Typing (inside + 1))) progress)
    (cond (b == 93) (now_in (Beside (Typing (inside - 1))) progress)
    (cond (b == 62 && inside == 0) (then_between (declare progress)) (now_in (Beside (Typing inside)) progress))))

-- one byte: a comment has no `--` but in its end, character data ends at the first `]]>`, and a processing instruction at the first `?>`
abbrev pub read_aside : Progress → Aside → ℕ → Option Place
read_aside progress (Marked word) b = read_mark progress (word ++ b ∷ [])
read_aside progress Comment b = cond (b == 45) (now_in (Beside CommentDash) progress) (now_in (Beside Comment) progress)
read_aside progress CommentDash b = cond (b == 45) (now_in (Beside CommentEnd) progress) (now_in (Beside Comment) progress)
read_aside progress CommentEnd b = cond (b == 62) (now_between progress) None
read_aside progress Data b = cond (b == 93) (now_in (Beside DataBracket) progress) (option_and_then (now_in (Beside Data)) (say progress b))
read_aside progress DataBracket b = cond (b == 93) (now_in (Beside DataEnd) progress) (option_and_then (now_in (Beside Data)) (refer progress (93 ∷ b ∷ [])))
read_aside progress DataEnd b = cond (b == 62) (now_between progress)
    (cond (b == 93) (option_and_then (now_in (Beside DataEnd)) (refer progress (93 ∷ []))) (option_and_then (now_in (Beside Data)) (refer progress (93 ∷ 93 ∷ b ∷ []))))
read_aside progress (Typing inside) b = read_type progress inside b
read_aside progress (Quoted inside quote) b = cond (b == quote) (now_in (Beside (Typing inside)) progress) (now_in (Beside (Quoted inside quote)) progress)
read_aside progress Processing b = cond (b == 63) (now_in (Beside ProcessingEnd) progress) (now_in (Beside Processing) progress)
read_aside progress ProcessingEnd b = cond (b == 62) (now_between progress) (cond (b == 63) (now_in (Beside ProcessingEnd) progress) (now_in (Beside Processing) progress))
