-- A script read aloud: its head, and the texts of its revisions one after another.
use Rattle.std.specs.Prelude.{ℕ, ◌≡◌, ◌+◌, ◌<◌, ◌^◌, List, [], ◌∷◌, ◌++◌, Ok, length, map, codes}
use Rattle.rev_nodes.specs.declared.commit.Commit.{Commit}
use Rattle.rev_nodes.specs.Trees.{Repository}
use Rattle.rev_scripts.specs.Written.{revision_text}
use Rattle.rev_scripts.specs.Scripts.{repository_from}

-- the three lines at the head of a script of this name and uuid
abbrev pub heading_text : List ℕ → List ℕ → List ℕ
heading_text name uuid = codes "davsvn-script 1\n" ++ (codes "repos " ++ name ++ codes "\n") ++ (codes "uuid " ++ uuid ++ codes "\n")

-- the revisions of these commits, of which the first has this number
abbrev pub revisions_text : ℕ → List Commit → List ℕ
revisions_text number [] = []
revisions_text number (commit ∷ commits) = revision_text number commit ++ revisions_text (number + 1) commits

-- the script of the repository
abbrev pub script_text : Repository → List ℕ
script_text repository = heading_text repository.name repository.uuid ++ revisions_text 0 (map (λ revision. revision.commit) repository.revisions)

-- whatever is read as a script is the script of the repository that is read
abbrev pub ScriptsReadAloud : Type 0
ScriptsReadAloud = (bytes : List ℕ) (repository : Repository) → length bytes < 2 ^ 64 → repository_from bytes ≡ Ok repository → bytes ≡ script_text repository
