-- What the three files give.
use Rattle.std.specs.Prelude.{ℕ, ◌≡◌, ◌⊎◌, List, Option, None, Some, Result, Ok, Err, ⊤, Bool, true, false}
use Rattle.dsv_outside.specs.Reads.{Holds}
use Rattle.authz_file.specs.declared.rules.Rules.{Rules}
use Rattle.authz_file.specs.declared.rules_fault.RulesFault.{RulesFault}
use Rattle.authz_file.specs.Faults.{line_of}
use Rattle.authz_file.specs.Resolving.{rules_of}
use Rattle.http_front.specs.declared.user.User.{User}
use Rattle.http_front.specs.declared.users_fault.UsersFault.TheVariants as users_faults
use Rattle.http_front.specs.UsersFile.{users_of}
use Rattle.rev_scripts.specs.declared.script_fault.ScriptFault.TheVariants as script_faults
use Rattle.rev_nodes.specs.Forests.{repository_of}
use Rattle.rev_nodes.specs.Trees.{Repository}
use Rattle.rev_scripts.specs.Scripts.{repository_from}
use Rattle.davsvn_run.specs.declared.end.End.{End}
use Rattle.davsvn_run.specs.declared.end.End.TheVariants as end
use Rattle.davsvn_run.specs.declared.inputs.Inputs.{Inputs}
use Rattle.davsvn_run.specs.declared.unread.Unread.{Unread}
use Rattle.davsvn_run.specs.declared.unread.Unread.TheVariants.{BadLine, Failed, NoMemory}
use Rattle.davsvn_run.specs.Commands.{FileNames}
use Rattle.davsvn_run.specs.Worlds.{Contents}

-- the text of the file of this name is such
abbrev pub FileIs : (List ℕ → Type 0) → Contents → List ℕ → Type 0
FileIs is contents name = (text : List ℕ) × Holds contents name text × is text

-- it is the script of the repository
abbrev pub IsScript : Contents → List ℕ → Repository → Type 0
IsScript contents name repository = FileIs (λ text. repository_from text ≡ Ok repository) contents name

-- .. or is refused at a line
abbrev pub IsNoScript : Contents → List ℕ → ℕ → Type 0
IsNoScript contents name line =
    FileIs (λ text. repository_from text ≡ Err (script_faults.BadScript line)) contents name

-- it gives the rules
abbrev pub AreRules : Contents → List ℕ → Rules → Type 0
AreRules contents name rules = FileIs (λ text. rules_of text ≡ Ok rules) contents name

-- .. or is refused at a line
abbrev pub AreNoRules : Contents → List ℕ → ℕ → Type 0
AreNoRules contents name line =
    FileIs (λ text. (fault : RulesFault) × (rules_of text ≡ Err fault) × (line_of fault ≡ Some line)) contents name

-- it gives the users
abbrev pub AreUsers : Contents → List ℕ → List User → Type 0
AreUsers contents name users = FileIs (λ text. users_of text ≡ Ok users) contents name

-- .. or is refused at a line
abbrev pub AreNoUsers : Contents → List ℕ → ℕ → Type 0
AreNoUsers contents name line = FileIs (λ text. users_of text ≡ Err (users_faults.BadUsers line)) contents name

-- ---- the three files together

-- they are of their forms, and give these
pub record Opens
    (contents : Contents) (names : FileNames) (repository : Repository) (rules : Rules) (users : List User)
    : Type 0 where
  pub script : IsScript contents names.script repository
  pub rules_file : AreRules contents names.rules rules
  pub users_file : AreUsers contents names.users users

-- .. whatever they give
abbrev pub AreOpen : Contents → FileNames → Type 0
AreOpen contents names =
    (repository : Repository) × (rules : Rules) × (users : List User) × Opens contents names repository rules users

-- the file of this name is the first that breaks its grammar, at this line; those before it are of their forms
abbrev pub IsBadFile : Contents → FileNames → List ℕ → ℕ → Type 0
IsBadFile contents names name line =
    ((name ≡ names.script) × IsNoScript contents names.script line)
    ⊎ ((repository : Repository) × IsScript contents names.script repository
    × (name ≡ names.rules) × AreNoRules contents names.rules line)
    ⊎ ((repository : Repository) × (rules : Rules) × IsScript contents names.script repository
    × AreRules contents names.rules rules × (name ≡ names.users) × AreNoUsers contents names.users line)

-- the file of this name was the next to be read: those before it are of their forms
abbrev pub IsNextFile : Contents → FileNames → List ℕ → Type 0
IsNextFile contents names name =
    (name ≡ names.script)
    ⊎ ((repository : Repository) × IsScript contents names.script repository × (name ≡ names.rules))
    ⊎ ((repository : Repository) × (rules : Rules) × IsScript contents names.script repository
    × AreRules contents names.rules rules × (name ≡ names.users))

-- an end where one of them isn't known: it breaks its grammar, or couldn't be read, where the files' count rose
abbrev pub IsUnopened : Contents → FileNames → Type 0 → End → Type 0
IsUnopened contents names rose (end.BadFile name line) = IsBadFile contents names name line
IsUnopened contents names rose (end.FileFault name) = IsNextFile contents names name × rose
IsUnopened contents names rose end.NoMemory = ⊤
IsUnopened contents names rose _ = ⊥

-- what opening them says: what they give, or the end for want of them
abbrev pub OpeningSays : Contents → FileNames → Type 0 → Result Inputs End → Type 0
OpeningSays contents names rose (Ok inputs) =
    Opens contents names (repository_of inputs.trees) inputs.rules inputs.users
OpeningSays contents names rose (Err end) = IsUnopened contents names rose end

-- ---- one file

-- what reading a file says of it
abbrev pub ReadsFile : {X : Type 0} → (X → Type 0) → (ℕ → Type 0) → Result X Unread → Type 0
ReadsFile is is_bad (Ok x) = is x
ReadsFile is is_bad (Err (BadLine line)) = is_bad line
ReadsFile is is_bad (Err Failed) = ⊤
ReadsFile is is_bad (Err NoMemory) = ⊤

-- .. and whether the reading failed
abbrev pub is_failed_read : {X : Type 0} → Result X Unread → Bool
is_failed_read (Ok x) = false
is_failed_read (Err (BadLine line)) = false
is_failed_read (Err Failed) = true
is_failed_read (Err NoMemory) = false

-- the end of a run that needs a file which isn't known: it names the file, unless memory is wanting for that
abbrev pub end_of : List ℕ → Unread → End
end_of name (BadLine line) = end.BadFile name line
end_of name Failed = end.FileFault name
end_of name NoMemory = end.NoMemory

-- a refusal with its line; without one it is want of memory
abbrev pub refused_at : Option ℕ → Unread
refused_at None = NoMemory
refused_at (Some line) = BadLine line
