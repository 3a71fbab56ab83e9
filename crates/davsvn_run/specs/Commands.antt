-- The words of the command line.
use Rattle.std.specs.Prelude.{ℕ, Bool, true, false, not, ◌||◌, List, [], ◌∷◌, Option, None, Some, is_some, codes, if◌then◌else◌}
use Rattle.std.specs.Option.{option_map}
use Rattle.std.specs.Str.{bytes_eq}
use Rattle.dsv_base.specs.Names.{is_user_name, is_repository_name}
use Rattle.dsv_base.specs.Paths.{is_path}
use Rattle.authz_file.specs.declared.right.Right.{Right}
use Rattle.authz_file.specs.declared.right.Right.TheVariants.{No, Read, Write}
use Rattle.davsvn_run.specs.declared.verb.Verb.TheVariants as verbs
use Rattle.davsvn_run.specs.Options.{Given, read_options, value_of, has_double}

-- the files of a repository, by name
pub record FileNames : Type 0 where
  pub script : List ℕ
  pub rules : List ℕ
  pub users : List ℕ

-- whose right is asked for, by which rules file, for which repository; which right it has to be; and
-- whether it has to be held at every path under the one that is asked about, too
pub record Question : Type 0 where
  pub rules : List ℕ
  pub repos : List ℕ
  pub user : Option (List ℕ)
  pub expected : Option Right
  pub recursive : Bool

-- what the words of the command line ask for
pub data Command : Type 0 where
  Pipe : FileNames → Command
  AccessOf : Question → List ℕ → Command

-- a text of which a test holds
abbrev pub that : (List ℕ → Bool) → List ℕ → Option (List ℕ)
that holds text = if holds text then Some text else None

-- a file's name isn't empty
abbrev pub is_file_name : List ℕ → Bool
is_file_name [] = false
is_file_name (b ∷ rest) = true

-- the right that a word names
abbrev pub right_named : List ℕ → Option Right
right_named word =
    if bytes_eq word (codes "no") then Some No else
    if bytes_eq word (codes "r") then Some Read else
    if bytes_eq word (codes "rw") then Some Write else None

-- the value of an option that has to be given, as it is read
abbrev pub needed : {X : Type 0} → (List ℕ → Option X) → Option (List ℕ) → Option X
needed read None = None
needed read (Some value) = read value

-- .. and of one that may be left out
abbrev pub optional : {X : Type 0} → (List ℕ → Option X) → Option (List ℕ) → Option (Option X)
optional read None = Some None
optional read (Some value) = option_map Some (read value)

-- the next step of a chain, which the first none ends
infixl 10 ◌>>=◌
abbrev ◌>>=◌ : {A B : Type 0} → Option A → (A → Option B) → Option B
(Some x) >>= f = f x
None >>= f = None

-- `--script F --rules F --users F`, in any order
abbrev pub file_names_of : Given → Option FileNames
file_names_of given = do
  script ← needed (that is_file_name) (value_of (codes "--script") given)
  rules ← needed (that is_file_name) (value_of (codes "--rules") given)
  users ← needed (that is_file_name) (value_of (codes "--users") given)
  Some (record { script = script; rules = rules; users = users })

-- `--rules F --repos NAME [--user NAME] [--is no|r|rw] [--recursive]`, in any order
abbrev pub question_of : Given → Option Question
question_of given = do
  rules ← needed (that is_file_name) (value_of (codes "--rules") given)
  repos ← needed (that is_repository_name) (value_of (codes "--repos") given)
  user ← optional (that is_user_name) (value_of (codes "--user") given)
  expected ← optional right_named (value_of (codes "--is") given)
  Some (record {
    rules = rules;
    repos = repos;
    user = user;
    expected = expected;
    recursive = is_some (value_of (codes "--recursive") given);
  })

-- no option is given twice, and no other word stands after the options of `pipe`
abbrev pub pipe_command : Given × List (List ℕ) → Option Command
pipe_command (given, []) = if has_double given then None else option_map Pipe (file_names_of given)
pipe_command (given, word ∷ words) = None

-- .. and one word, the path, after those of `accessof`
abbrev pub accessof_command : Given × List (List ℕ) → Option Command
accessof_command (given, []) = None
accessof_command (given, path ∷ []) =
    if has_double given || not (is_path path) then None else
    option_map (λ question. AccessOf question path) (question_of given)
accessof_command (given, path ∷ word ∷ words) = None

-- what the words ask for, where they are those of a command
abbrev pub command : List (List ℕ) → Option Command
command [] = None
command (verb ∷ words) =
    if bytes_eq verb (codes "pipe") then pipe_command (read_options verbs.Pipe words) else
    if bytes_eq verb (codes "accessof") then accessof_command (read_options verbs.AccessOf words) else None
