-- Entries that were read before, and those of the lines that are left.
use Rattle.std.proofs.Common.{◌≡◌, List, [], ◌∷◌, ◌++◌, Result, Ok, Err, refl, append_assoc, ap, sym, ◌∙◌}
use Rattle.dsv_base.specs.Gives.{◌>>=◌, Gives}
use Rattle.authz_file.specs.Faults.{is_free_rules_fault}
use Rattle.authz_file.specs.declared.rules_fault.RulesFault.{RulesFault}
use Rattle.authz_file.specs.declared.rules_fault.RulesFault.TheVariants.{BadLine, BadSection, BadAccess, UnknownGroup, UnknownAlias, GroupCycle, NoMemory}
use Rattle.authz_file.specs.declared.section_entry.SectionEntry.{SectionEntry}
use Rattle.authz_file.specs.Reading.{with_front}

pub with_front-nil : (read : Result (List SectionEntry) RulesFault) → with_front [] read ≡ read
with_front-nil (Ok xs) = refl
with_front-nil (Err e) = refl

pub with_front-first : (front : List SectionEntry) (entry : SectionEntry) (read : Result (List SectionEntry) RulesFault) → with_front front (read >>= (λ entries. Ok (entry ∷ entries))) ≡ with_front (front ++ entry ∷ []) read
with_front-first front entry (Ok xs) = ap Ok (sym (append_assoc front (entry ∷ []) xs))
with_front-first front entry (Err e) = refl

-- a fault of what is left is that of all
pub front_fails : (e : RulesFault) (front : List SectionEntry) (read all : Result (List SectionEntry) RulesFault) → Gives {X = List SectionEntry} is_free_rules_fault (Err e) read → with_front front read ≡ all → Gives {X = List SectionEntry} is_free_rules_fault (Err e) all
front_fails NoMemory front read all h same = tt
front_fails (BadLine line) front read all h same = sym same ∙ ap (with_front front) h
front_fails (BadSection line) front read all h same = sym same ∙ ap (with_front front) h
front_fails (BadAccess line) front read all h same = sym same ∙ ap (with_front front) h
front_fails (UnknownGroup line) front read all h same = sym same ∙ ap (with_front front) h
front_fails (UnknownAlias line) front read all h same = sym same ∙ ap (with_front front) h
front_fails (GroupCycle line) front read all h same = sym same ∙ ap (with_front front) h

-- a fault of one step ends the chain
pub step_fails : {X : Type 0} (e : RulesFault) (read : Result X RulesFault) (next : X → Result (List SectionEntry) RulesFault) → Gives {X = X} is_free_rules_fault (Err e) read → Gives {X = List SectionEntry} is_free_rules_fault (Err e) (read >>= next)
step_fails NoMemory read next h = tt
step_fails (BadLine line) read next h = ap (λ r. r >>= next) h
step_fails (BadSection line) read next h = ap (λ r. r >>= next) h
step_fails (BadAccess line) read next h = ap (λ r. r >>= next) h
step_fails (UnknownGroup line) read next h = ap (λ r. r >>= next) h
step_fails (UnknownAlias line) read next h = ap (λ r. r >>= next) h
step_fails (GroupCycle line) read next h = ap (λ r. r >>= next) h
