-- What the files' ends and serving say of a run of `pipe`, and what a run's end says of its status.
use Rattle.std.proofs.Common.{◌≡◌, ◌↔◌, ◌⊎◌, ℕ, List, [], Option, None, Some, Err, refl, sym, ap, ◌∙◌, ◌≤◌, subst, inl, inr}
use Rattle.std.specs.Prelude.{⊤}
use Rattle.dsv_outside.specs.Causes.{HasCause, Rose}
use Rattle.dsv_outside.proofs.Causes.{Rose-earlier}
use Rattle.authz_file.specs.declared.rules.Rules.{Rules}
use Rattle.http_front.specs.declared.user.User.{User}
use Rattle.rev_nodes.specs.Forests.{repository_of}
use Rattle.rev_nodes.specs.Trees.{Repository}
use Rattle.davsvn_run.specs.declared.end.End.{End}
use Rattle.davsvn_run.specs.declared.end.End.TheVariants.{Well, Usage, BadFile, BrokeOff, ReadFault, WriteFault, FileFault, NoMemory, OtherRight}
use Rattle.davsvn_run.specs.declared.unread.Unread.{Unread}
use Rattle.davsvn_run.specs.declared.unread.Unread.TheVariants as unread
use Rattle.davsvn_run.specs.Commands.{Command, Pipe, AccessOf, FileNames, Question}
use Rattle.davsvn_run.specs.Opening.{IsScript, AreRules, AreNoRules, AreUsers, AreNoUsers, ReadsFile, is_failed_read, end_of, Opens, AreOpen, IsUnopened}
use Rattle.davsvn_run.specs.Worlds.{Contents, WorldState, IsUnread, IsUnserved, IsUntouched, IsUnreported}
use Rattle.dsv_outside.specs.declared.serve_end.ServeEnd.{ServeEnd}
use Rattle.dsv_outside.specs.declared.serve_end.ServeEnd.TheVariants as serve_end
use Rattle.dav_serve.specs.Serves.{is_read_fault, is_write_fault}
use Rattle.dav_machine.specs.Origins.{Origin, alone}
use Rattle.dav_machine.specs.States.{State}
use Rattle.davsvn_run.specs.Asking.{right_asked}
use Rattle.davsvn_run.specs.Runs.{Served, ServedBy, PipeSays, TellSays, AskSays, WorkSays, ForPipe}
use Rattle.davsvn_run.specs.declared.inputs.Inputs.{Inputs}
use Rattle.davsvn_run.specs.Serving.{end_of_serving, ServingSays}
use Rattle.davsvn_run.specs.Statuses.{number_of, end_line, TookLine, IsReported}

-- ---- the three files

-- the three readings one after another, none of which changes what the files hold
pub opened : (k0 k1 k2 : Contents) (names : FileNames) (repository : Repository) (rules : Rules) (users : List User) → k1 ≡ k0 → k2 ≡ k1 → IsScript k0 names.script repository → AreRules k1 names.rules rules → AreUsers k2 names.users users → Opens k0 names repository rules users
opened k0 k1 k2 names repository rules users first second script rules_file users_file = record {
  script = script;
  rules_file = subst (λ (k : Contents). AreRules k names.rules rules) first rules_file;
  users_file = subst (λ (k : Contents). AreUsers k names.users users) (second ∙ first) users_file;
}

-- what has to be known where a file isn't, so that the end says what it has to
abbrev pub OnUnread : (End → Type 0) → List ℕ → Unread → Type 0
OnUnread says name (unread.BadLine line) = says (BadFile name line)
OnUnread says name unread.Failed = says (FileFault name)
OnUnread says name unread.NoMemory = ⊤

-- the end of a run that needs such a file: it tells the cause, or want of memory
ended : (says : End → Type 0) (name : List ℕ) (why : Unread) (end : End) → ((end ≡ end_of name why) ⊎ (end ≡ NoMemory)) → says NoMemory → OnUnread says name why → says end
ended says name why end (inr e) free cause = subst says (sym e) free
ended says name (unread.BadLine line) end (inl e) free cause = subst says (sym e) cause
ended says name unread.Failed end (inl e) free cause = subst says (sym e) cause
ended says name unread.NoMemory end (inl e) free cause = subst says (sym e) free

-- a rules file or a users file that isn't known, after a script that is
module _ (contents then : Contents) (names : FileNames) (first before now : ℕ) (repository : Repository) (script : IsScript contents names.script repository) (same : then ≡ contents) (until : first ≤ before) where
  rules_unread : (why : Unread) → ReadsFile {X = Rules} (AreRules then names.rules) (AreNoRules then names.rules) (Err why) → HasCause before now (is_failed_read {X = Rules} (Err why)) → OnUnread (IsUnopened contents names (Rose first now)) names.rules why
  rules_unread (unread.BadLine line) bytes cause = inr (inl (repository, script, refl, subst (λ (k : Contents). AreNoRules k names.rules line) same bytes))
  rules_unread unread.Failed bytes cause = (inr (inl (repository, script, refl)), Rose-earlier first before now until cause.rose)
  rules_unread unread.NoMemory bytes cause = tt

  users_unread : (rules : Rules) → AreRules contents names.rules rules → (why : Unread) → ReadsFile {X = List User} (AreUsers then names.users) (AreNoUsers then names.users) (Err why) → HasCause before now (is_failed_read {X = List User} (Err why)) → OnUnread (IsUnopened contents names (Rose first now)) names.users why
  users_unread rules rules_file (unread.BadLine line) bytes cause = inr (inr (repository, rules, script, rules_file, refl, subst (λ (k : Contents). AreNoUsers k names.users line) same bytes))
  users_unread rules rules_file unread.Failed bytes cause = (inr (inr (repository, rules, script, rules_file, refl)), Rose-earlier first before now until cause.rose)
  users_unread rules rules_file unread.NoMemory bytes cause = tt

  pub rules_ended : (why : Unread) (end : End) → ReadsFile {X = Rules} (AreRules then names.rules) (AreNoRules then names.rules) (Err why) → HasCause before now (is_failed_read {X = Rules} (Err why)) → (end ≡ end_of names.rules why) ⊎ (end ≡ NoMemory) → IsUnopened contents names (Rose first now) end
  rules_ended why end bytes cause is = ended (IsUnopened contents names (Rose first now)) names.rules why end is tt (rules_unread why bytes cause)

  pub users_ended : (rules : Rules) → AreRules contents names.rules rules → (why : Unread) (end : End) → ReadsFile {X = List User} (AreUsers then names.users) (AreNoUsers then names.users) (Err why) → HasCause before now (is_failed_read {X = List User} (Err why)) → (end ≡ end_of names.users why) ⊎ (end ≡ NoMemory) → IsUnopened contents names (Rose first now) end
  users_ended rules rules_file why end bytes cause is = ended (IsUnopened contents names (Rose first now)) names.users why end is tt (users_unread rules rules_file why bytes cause)

-- ---- the keeper

-- a keeper that comes back from a hub of the origin that it was given to, none of whose entries was kept
module _ {P : Type 0} (kept : P → Option (List (ℕ × List ℕ))) (faults : P → ℕ) (opening later : State) (keeper first back : P) where
  pub keeper_back : alone later (faults first) (kept first) ≡ alone opening (faults keeper) (kept keeper) → back ≡ first → (kept back ≡ kept keeper) × (faults back ≡ faults keeper)
  keeper_back origin same = (ap kept same ∙ ap (λ (o : Origin). o.kept) origin, ap faults same ∙ ap (λ (o : Origin). o.faults) origin)

-- ---- `accessof`

-- the right was put, or what came of it
pub told_right : {S K E C F P : Type 0} (question : Question) (path : List ℕ) (p q : WorldState S K E C F P) (rules : Rules) → AreRules p.told.contents question.rules rules → (end : End) → TellSays question.expected (right_asked rules.list question path) p.told.taken q.told.taken (Rose p.told.write_faults q.told.write_faults) end → AskSays question path p q end
told_right question path p q rules are Well s = (rules, are, s.0, s.1)
told_right question path p q rules are Usage s = absurd s
told_right question path p q rules are (BadFile name line) s = absurd s
told_right question path p q rules are BrokeOff s = absurd s
told_right question path p q rules are ReadFault s = absurd s
told_right question path p q rules are WriteFault s = (rules, are, s.0, s.1)
told_right question path p q rules are (FileFault name) s = absurd s
told_right question path p q rules are NoMemory s = s
told_right question path p q rules are OtherRight s = (rules, are, s.0, s.1)

-- ---- a run of `pipe`

module _ {S K E C F P : Type 0} (names : FileNames) (p q : WorldState S K E C F P) where
  -- a run whose files aren't known
  pub unopened_run : (end : End) → IsUnopened p.told.contents names (Rose p.told.file_faults q.told.file_faults) end → IsUnserved p q → PipeSays names p q end
  unopened_run Well s kept = absurd s
  unopened_run Usage s kept = absurd s
  unopened_run (BadFile name line) s kept = (s, kept)
  unopened_run BrokeOff s kept = absurd s
  unopened_run ReadFault s kept = absurd s
  unopened_run WriteFault s kept = absurd s
  unopened_run (FileFault name) s kept = (s.0, s.1, kept)
  unopened_run NoMemory s kept = inl kept
  unopened_run OtherRight s kept = absurd s

  served : (ended : ServeEnd) → Served names p.told q.told ended → HasCause p.told.read_faults q.told.read_faults (is_read_fault ended) → HasCause p.told.write_faults q.told.write_faults (is_write_fault ended) → PipeSays names p q (end_of_serving ended)
  served serve_end.Ended s read written = inl s
  served serve_end.Closed s read written = inr s
  served serve_end.BrokeOff s read written = s
  served serve_end.ReadFault s read written = (read.rose, s)
  served serve_end.WriteFault s read written = (written.rose, s)
  served serve_end.NoMemory s read written = inr s

  -- a run whose connection was served
  pub served_run : (repository : Repository) (rules : Rules) (users : List User) → Opens p.told.contents names repository rules users → (ended : ServeEnd) → ServedBy repository rules users p.told q.told ended → HasCause p.told.read_faults q.told.read_faults (is_read_fault ended) → HasCause p.told.write_faults q.told.write_faults (is_write_fault ended) → PipeSays names p q (end_of_serving ended)
  served_run repository rules users opens ended by read written =
      served ended (record { repository = repository; rules = rules; users = users; opens = opens; served = by }) read written

  is_open : (ended : ServeEnd) → Served names p.told q.told ended → IsUnread p q ⊎ AreOpen p.told.contents names
  is_open ended s = inr (s.repository, s.rules, s.users, s.opens)

  -- source and clock are touched only where the files are of their forms
  reached_files : (end : End) → PipeSays names p q end → IsUnread p q ⊎ AreOpen p.told.contents names
  reached_files Well (inl s) = is_open serve_end.Ended s
  reached_files Well (inr s) = is_open serve_end.Closed s
  reached_files Usage s = absurd s
  reached_files (BadFile name line) s = inl s.1.0
  reached_files BrokeOff s = is_open serve_end.BrokeOff s
  reached_files ReadFault s = is_open serve_end.ReadFault s.1
  reached_files WriteFault s = is_open serve_end.WriteFault s.1
  reached_files (FileFault name) s = inl s.2.0
  reached_files NoMemory (inl s) = inl s.0
  reached_files NoMemory (inr s) = is_open serve_end.NoMemory s
  reached_files OtherRight s = absurd s

-- ---- a run

is_usage : (end : End) → number_of end ≡ 1 → end ≡ Usage
is_usage Well n = absurd (cc)
is_usage Usage n = refl
is_usage (BadFile name line) n = absurd (cc)
is_usage ReadFault n = absurd (cc)
is_usage WriteFault n = absurd (cc)
is_usage (FileFault name) n = absurd (cc)
is_usage NoMemory n = absurd (cc)
is_usage OtherRight n = absurd (cc)
is_usage BrokeOff n = absurd (cc)

module _ {S K E C F P : Type 0} (p q : WorldState S K E C F P) where
  usage_words : (words : Option Command) → WorkSays words p q Usage → words ≡ None
  usage_words None s = refl
  usage_words (Some (Pipe names)) s = absurd s
  usage_words (Some (AccessOf question path)) s = absurd s.0

  no_words : (words : Option Command) (end : End) → words ≡ None → WorkSays words p q end → end ≡ Usage
  no_words None end e s = s.0
  no_words (Some command) end e s = absurd (cc)

  -- the words are none of the program's exactly where the status is that of usage
  pub says_usage : (words : Option Command) (end : End) → WorkSays words p q end → (number_of end ≡ 1) ↔ (words ≡ None)
  says_usage words end s = ((λ n. usage_words words (subst (λ (e : End). WorkSays words p q e) (is_usage end n) s)), (λ e. ap number_of (no_words words end e s)))

  -- .. and then nothing but the errors is touched
  pub says_untouched : (words : Option Command) (end : End) → WorkSays words p q end → words ≡ None → IsUntouched p q
  says_untouched None end s e = s.1
  says_untouched (Some command) end s e = absurd (cc)

  pub says_reached : (words : Option Command) (end : End) → WorkSays words p q end → IsUnread p q ⊎ ForPipe words (AreOpen p.told.contents)
  says_reached None end s = inl s.1.0.0
  says_reached (Some (Pipe names)) end s = reached_files names p q end s
  says_reached (Some (AccessOf question path)) end s = inl s.1

-- ---- the line to errors

-- what a run's table of ends says it says whatever the errors are
module _ {S K E C F P : Type 0} (p q : WorldState S K E C F P) (errors : E) (taken : Option (List ℕ)) (faults : ℕ) where
  abbrev reported : WorldState S K E C F P
  reported = record q { errors = errors; told = record q.told { errors_taken = taken; error_faults = faults } }

  served_reported : (names : FileNames) (ended : ServeEnd) → Served names p.told q.told ended → Served names p.told reported.told ended
  served_reported names ended s = record { repository = s.repository; rules = s.rules; users = s.users; opens = s.opens; served = s.served }

  pipe_reported : (names : FileNames) (end : End) → PipeSays names p q end → PipeSays names p reported end
  pipe_reported names Well (inl s) = inl (served_reported names serve_end.Ended s)
  pipe_reported names Well (inr s) = inr (served_reported names serve_end.Closed s)
  pipe_reported names Usage s = absurd s
  pipe_reported names (BadFile name line) s = s
  pipe_reported names BrokeOff s = served_reported names serve_end.BrokeOff s
  pipe_reported names ReadFault s = (s.0, served_reported names serve_end.ReadFault s.1)
  pipe_reported names WriteFault s = (s.0, served_reported names serve_end.WriteFault s.1)
  pipe_reported names (FileFault name) s = s
  pipe_reported names NoMemory (inl s) = inl s
  pipe_reported names NoMemory (inr s) = inr (served_reported names serve_end.NoMemory s)
  pipe_reported names OtherRight s = absurd s

  ask_reported : (question : Question) (path : List ℕ) (end : End) → AskSays question path p q end → AskSays question path p reported end
  ask_reported question path Well s = s
  ask_reported question path Usage s = absurd s
  ask_reported question path (BadFile name line) s = s
  ask_reported question path BrokeOff s = absurd s
  ask_reported question path ReadFault s = absurd s
  ask_reported question path WriteFault s = s
  ask_reported question path (FileFault name) s = s
  ask_reported question path NoMemory s = s
  ask_reported question path OtherRight s = s

  pub says_reported : (words : Option Command) (end : End) → WorkSays words p q end → WorkSays words p reported end
  says_reported None end s = s
  says_reported (Some (Pipe names)) end s = pipe_reported names end s
  says_reported (Some (AccessOf question path)) end s = (ask_reported question path end s.0, s.1)

-- ---- a world by its parts

-- the world `p`, which `p0` gives by its parts, is opened: its files are read, and its connection is served
module _ {S K E C F P : Type 0} (p0 p q : WorldState S K E C F P) (same : p0 ≡ p) (files : F) (contents : Contents) (faults : ℕ) where
  abbrev read_world : WorldState S K E C F P
  read_world = record p0 { files = files; told = record p0.told { contents = contents; file_faults = faults } }

  pub served_at : (names : FileNames) (inputs : Inputs) → Opens p0.told.contents names (repository_of inputs.trees) inputs.rules inputs.users → (ended : ServeEnd) → ServingSays inputs read_world q ended → PipeSays names p q (end_of_serving ended)
  served_at names inputs opens ended serving =
      subst (λ (w : WorldState S K E C F P). PipeSays names w q (end_of_serving ended)) same
      (served_run names p0 q (repository_of inputs.trees) inputs.rules inputs.users opens ended serving.served serving.read serving.written)

-- .. or its sink takes a right; what is said speaks neither of the files nor of the errors
module _ {S K E C F P : Type 0} (p0 p : WorldState S K E C F P) (same : p0 ≡ p) (sink : K) (taken : Option (List ℕ)) (write_faults file_faults : ℕ) where
  abbrev put_world : WorldState S K E C F P
  put_world = record p0 { sink = sink; told = record p0.told { taken = taken; write_faults = write_faults; file_faults = file_faults } }

  pub asked_at : (question : Question) (path : List ℕ) (rules : Rules) → AreRules p0.told.contents question.rules rules → (end : End) → TellSays question.expected (right_asked rules.list question path) p0.told.taken taken (Rose p0.told.write_faults write_faults) end → AskSays question path p put_world end
  asked_at question path rules are end told =
      subst (λ (w : WorldState S K E C F P). AskSays question path w put_world end) same (told_right question path p0 put_world rules are end told)

module _ {S K E C F P : Type 0} (p0 p q : WorldState S K E C F P) (same : p0 ≡ p) where
  pub serves_at : (inputs : Inputs) (ended : ServeEnd) → ServingSays inputs p0 q ended → ServingSays inputs p q ended
  serves_at inputs ended s = subst (λ (w : WorldState S K E C F P). ServingSays inputs w q ended) same s

-- the world after the line was put, where it was `q` before, which `q0` gives by its parts
module _ {S K E C F P : Type 0} (p q0 q : WorldState S K E C F P) (same : q0 ≡ q) where
  works_before : (words : Option Command) (end : End) → WorkSays words p q end → WorkSays words p q0 end
  works_before words end s = subst (λ (w : WorldState S K E C F P). WorkSays words p w end) (sym same) s

  -- source and clock are what the line found
  pub reached_after : (words : Option Command) (end : End) → WorkSays words p q end → IsUnread p q0 ⊎ ForPipe words (AreOpen p.told.contents)
  reached_after words end s = says_reached p q0 words end (works_before words end s)

  module _ (errors : E) (taken : Option (List ℕ)) (faults : ℕ) where
    abbrev after : WorldState S K E C F P
    after = record q0 { errors = errors; told = record q0.told { errors_taken = taken; error_faults = faults } }

    works_after : (words : Option Command) (end : End) → WorkSays words p q end → WorkSays words p after end
    works_after words end s = says_reported p q0 errors taken faults words end (works_before words end s)

    reported_after : (end : End) → IsUnreported p q → TookLine q0.told.errors_taken taken (end_line end) (Rose q0.told.error_faults faults) → (end_line end ≡ [] → errors ≡ q0.errors) → IsReported end p after
    reported_after end kept line quiet =
        let before : IsUnreported p q0 = subst (λ (w : WorldState S K E C F P). IsUnreported p w) (sym same) kept in (
          subst (λ (t : Option (List ℕ)). TookLine t taken (end_line end) (Rose p.told.error_faults faults)) before.1
              (subst (λ (n : ℕ). TookLine q0.told.errors_taken taken (end_line end) (Rose n faults)) before.2 line),
          λ none. quiet none ∙ before.0,
        )

    -- what `run` says
    pub run_says : (words : Option Command) (status : ℕ) (end : End) → status ≡ number_of end → IsUnreported p q → WorkSays words p q end → TookLine q0.told.errors_taken taken (end_line end) (Rose q0.told.error_faults faults) → (end_line end ≡ [] → errors ≡ q0.errors)
        → (end : End) × (status ≡ number_of end) × IsReported end p after × WorkSays words p after end
    run_says words status end number kept says line quiet = (end, number, reported_after end kept line quiet, works_after words end says)
