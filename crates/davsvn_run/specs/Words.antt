-- What reading the words of the command line gives.
use Rattle.std.specs.Prelude.{ℕ, ◌≡◌, ◌<◌, true, List, [], Option, None, Some, Result, Ok, Err, is_some, length}
use Rattle.std.specs.Option.{option_map, option_copied}
use Rattle.davsvn_run.specs.declared.command.Command as declared
use Rattle.davsvn_run.specs.declared.command.Command.TheVariants as declared_variants
use Rattle.davsvn_run.specs.declared.command.FileNames as declared_names
use Rattle.davsvn_run.specs.declared.command.Question as declared_question
use Rattle.davsvn_run.specs.declared.verb.Verb.{Verb}
use Rattle.davsvn_run.specs.Options.{with_option, read_options}
use Rattle.davsvn_run.specs.Commands.{Command, Pipe, AccessOf, FileNames, Question}

-- the names of files, as lists
abbrev pub file_names_in : declared_names.FileNames → FileNames
file_names_in names = record { script = names.script.now; rules = names.rules.now; users = names.users.now }

-- a question, with its texts as lists
abbrev pub question_in : declared_question.Question → Question
question_in question = record {
  rules = question.rules.now;
  repos = question.repos.now;
  user = option_copied question.user;
  expected = question.expected;
  recursive = question.recursive;
}

-- a command, with its texts as lists
abbrev pub command_in : declared.Command → Command
command_in (declared_variants.Pipe names) = Pipe (file_names_in names)
command_in (declared_variants.AccessOf question path) = AccessOf (question_in question) path

-- the name of the script, of a command that has one
abbrev pub script_in : Command → Option (List ℕ)
script_in (Pipe names) = Some names.script
script_in (AccessOf question path) = None

-- the command that is asked for, or want of memory, which comes only where the words are those of one
abbrev pub ReadsCommand : {E : Type 0} → Option Command → Result (Option declared.Command) E → Type 0
ReadsCommand right (Ok given) = option_map command_in given ≡ right
ReadsCommand right (Err e) = is_some right ≡ true

-- the option at the front, by name and value, with the words after it; none stands there where there is none
abbrev pub IsFront : Verb → List (List ℕ) → Option (List ℕ × List ℕ × List (List ℕ)) → Type 0
IsFront verb words None = read_options verb words ≡ ([], words)
IsFront verb words (Some front) =
    (read_options verb words ≡ with_option front.0 front.1 (read_options verb front.2))
    × (length front.2 < length words)
