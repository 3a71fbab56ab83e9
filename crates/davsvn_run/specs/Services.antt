-- The words of the command `serve`.
use Rattle.std.specs.Prelude.{ℕ, Bool, ◌&&◌, ◌||◌, ◌==◌, List, [], ◌∷◌, length, nat_le, Option, None, Some, codes, if◌then◌else◌}
use Rattle.std.specs.Char.{is_ascii_alphanumeric}
use Rattle.std.specs.List.{list_all}
use Rattle.std.specs.Option.{option_map, option_and_then}
use Rattle.std.specs.Str.{bytes_eq}
use Rattle.dsv_base.specs.Lines.{cut_at}
use Rattle.dsv_base.specs.Numbers.{read_decimal}
use Rattle.davsvn_run.specs.declared.service.Service as declared
use Rattle.davsvn_run.specs.declared.verb.Verb.TheVariants.{Serve}
use Rattle.davsvn_run.specs.Commands.{FileNames, Command, needed, optional, file_names_of, command}
use Rattle.davsvn_run.specs.Options.{Given, read_options, value_of, has_double}
use Rattle.davsvn_run.specs.Words.{file_names_in, script_in}

-- what `serve` is asked for: the files of a repository by name, the host and the port that are listened on, how many
-- doors are served side by side, and how many connections each of them takes at most, where that is limited
pub record Service : Type 0 where
  pub files : FileNames
  pub host : List ℕ
  pub port : ℕ
  pub workers : ℕ
  pub each : Option ℕ

-- a letter, a digit, `.` or `-`
abbrev pub is_host_byte : ℕ → Bool
is_host_byte b = is_ascii_alphanumeric b || b == 46 || b == 45

-- the name of a host: 1 to 255 such bytes
unfoldable pub is_host : List ℕ → Bool
is_host name = nat_le 1 (length name) && nat_le (length name) 255 && list_all is_host_byte name

-- a number in decimal that is no less than one number and no greater than the other
unfoldable pub number_between : ℕ → ℕ → List ℕ → Option ℕ
number_between least most text = from (read_decimal most text) where
  from : Option ℕ → Option ℕ
  from None = None
  from (Some n) = if nat_le least n then Some n else None

-- a host, and after it a port from 1 to 65,535
abbrev pub host_and_port : Option (List ℕ × List ℕ) → Option (List ℕ × ℕ)
host_and_port None = None
host_and_port (Some (host, port)) =
    if is_host host then option_map (λ number. (host, number)) (number_between 1 65535 port) else None

-- HOST:PORT
unfoldable pub address_of : List ℕ → Option (List ℕ × ℕ)
address_of text = host_and_port (cut_at 58 text)

-- how many workers there are, where that isn't said
abbrev pub workers_told : Option ℕ → ℕ
workers_told None = 8
workers_told (Some workers) = workers

-- the next step of a chain, which the first none ends
infixl 10 ◌>>=◌
abbrev ◌>>=◌ : {A B : Type 0} → Option A → (A → Option B) → Option B
(Some x) >>= f = f x
None >>= f = None

-- `--script F --rules F --users F --listen HOST:PORT [--workers 1..64] [--each N]`, in any order
abbrev pub service_of : Given → Option Service
service_of given = do
  files ← file_names_of given
  address ← needed address_of (value_of (codes "--listen") given)
  workers ← optional (number_between 1 64) (value_of (codes "--workers") given)
  each ← optional (number_between 1 4294967295) (value_of (codes "--each") given)
  Some (record { files = files; host = address.0; port = address.1; workers = workers_told workers; each = each })

-- no option is given twice, and no other word stands after the options
abbrev pub serve_command : Given × List (List ℕ) → Option Service
serve_command (given, []) = if has_double given then None else service_of given
serve_command (given, word ∷ words) = None

-- what the words ask for, where they are those of `serve`
abbrev pub service : List (List ℕ) → Option Service
service [] = None
service (verb ∷ words) = if bytes_eq verb (codes "serve") then serve_command (read_options Serve words) else None

-- what is asked for, with its texts as lists
abbrev pub service_in : declared.Service → Service
service_in asked = record {
  files = file_names_in asked.files;
  host = asked.host.now;
  port = asked.port;
  workers = asked.workers;
  each = asked.each;
}

-- the host, the port and the number of workers
abbrev pub address_in : Service → List ℕ × ℕ × ℕ
address_in asked = (asked.host, asked.port, asked.workers)

-- the name of the script that a service or else a command has
abbrev pub script_from : Option Service → Option Command → Option (List ℕ)
script_from (Some asked) other = Some asked.files.script
script_from None other = option_and_then script_in other

-- the name of the script, where the words are those of `serve`, or of another command that has one
abbrev pub script_of : List (List ℕ) → Option (List ℕ)
script_of words = script_from (service words) (command words)
