-- A run of `pipe` over whole inputs, without a fault, is done or wants memory.
use Rattle.std.proofs.Common.{◌≡◌, ◌⊎◌, ℕ, true, false, List, ◌++◌, Option, None, Some, Result, Ok, Err, refl, sym, ap, ◌∙◌, subst, inl, inr, append-nil}
use Rattle.std.specs.Io.KnownBytes.{Consumes}
use Rattle.authz_file.specs.declared.rules.Rules.{Rules}
use Rattle.authz_file.specs.Resolving.{rules_of}
use Rattle.dav_serve.specs.Serves.{Leaves, NothingLeft}
use Rattle.dsv_outside.specs.FileTables.{text_named}
use Rattle.dsv_outside.specs.declared.serve_end.ServeEnd.TheVariants as serve_end
use Rattle.http_front.specs.declared.user.User.{User}
use Rattle.http_front.specs.Messages.{Messages, End, LastGiven, Left, RefusedAt}
use Rattle.http_front.specs.UsersFile.{users_of}
use Rattle.http_front.proofs.OneReading.{messages_same}
use Rattle.rev_scripts.specs.Scripts.{repository_from}
use Rattle.rev_nodes.specs.Trees.{Repository}
use Rattle.davsvn_run.specs.declared.end.End.{End as run_end}
use Rattle.davsvn_run.specs.declared.end.End.TheVariants as ends
use Rattle.davsvn_run.specs.Commands.{Command, Pipe, AccessOf, FileNames}
use Rattle.davsvn_run.specs.Opening.{FileIs, Opens, IsBadFile}
use Rattle.davsvn_run.specs.Runs.{Served, PipeSays, WorkSays, ForPipe}
use Rattle.davsvn_run.specs.Statuses.{number_of}
use Rattle.davsvn_run.specs.Whole.{IsDone, IsWhole, AreWhole}
use Rattle.davsvn_run.specs.Worlds.{Contents, WorldTold, WorldState, HasFault}

-- all that was left was taken, where nothing is left
taken_whole : (input bytes : List ℕ) (left : Option (List ℕ)) → Consumes (Some input) left bytes → NothingLeft (Some input) left → bytes ≡ input
taken_whole input bytes None consumed nothing = absurd consumed
taken_whole input bytes (Some rest) consumed nothing = sym (consumed ∙ ap (λ (l : List ℕ). bytes ++ l) nothing ∙ append-nil bytes)

-- ---- what a file gives is one

module _ (files : List (List ℕ × List ℕ)) where
  text_same : (name s t : List ℕ) → text_named files name ≡ Some s → text_named files name ≡ Some t → s ≡ t
  text_same name s t x y = let same : Some s ≡ Some t = sym x ∙ y in cc

  read_same : {X E : Type 0} (read : List ℕ → Result X E) (name : List ℕ) (x y : X) → FileIs (λ t. read t ≡ Ok x) (Some files) name → FileIs (λ t. read t ≡ Ok y) (Some files) name → x ≡ y
  read_same read name x y one other =
      let same : Ok x ≡ Ok y = sym one.2 ∙ ap read (text_same name one.0 other.0 one.1 other.1) ∙ other.2 in cc

  not_bad : {X E : Type 0} (read : List ℕ → Result X E) (name : List ℕ) (x : X) (e : E) (s t : List ℕ) → text_named files name ≡ Some s → read s ≡ Ok x → text_named files name ≡ Some t → read t ≡ Err e → ⊥
  not_bad read name x e s t here good there bad =
      let never : Ok x ≡ Err e = sym good ∙ ap read (text_same name s t here there) ∙ bad in absurd (cc)

  no_bad_file : (names : FileNames) (repository : Repository) (rules : Rules) (users : List User) → Opens (Some files) names repository rules users → (name : List ℕ) (line : ℕ) → IsBadFile (Some files) names name line → ⊥
  no_bad_file names repository rules users opens name line (inl x) =
      not_bad repository_from names.script repository _ opens.script.0 x.1.0 opens.script.1 opens.script.2 x.1.1 x.1.2
  no_bad_file names repository rules users opens name line (inr (inl x)) =
      not_bad rules_of names.rules rules x.3.2.0 opens.rules_file.0 x.3.0 opens.rules_file.1 opens.rules_file.2 x.3.1 x.3.2.1
  no_bad_file names repository rules users opens name line (inr (inr x)) =
      not_bad users_of names.users users _ opens.users_file.0 x.5.0 opens.users_file.1 opens.users_file.2 x.5.1 x.5.2

  -- an input that is whole doesn't break off
  not_broken : (names : FileNames) (repository : Repository) (rules : Rules) (users : List User) → Opens (Some files) names repository rules users → (input : List ℕ) → IsWhole users input → (p q : WorldTold)
      → p.contents ≡ Some files → p.left ≡ Some input → Served names p q serve_end.BrokeOff → ⊥
  not_broken names repository rules users opens input whole p q holds has s =
      let users_file = subst (λ (k : Contents). FileIs (λ t. users_of t ≡ Ok s.users) k names.users) holds s.opens.users_file in
      let same : s.users ≡ users = read_same users_of names.users s.users users users_file opens.users_file in
      let by = s.served.1 in
      let all = by.0 in
      let consumed : Consumes (Some input) q.left all.bytes = subst (λ (l : Option (List ℕ)). Consumes l q.left all.bytes) has all.talks.consumed in
      let nothing : NothingLeft (Some input) q.left = subst (λ (l : Option (List ℕ)). NothingLeft l q.left) has by.2 in
      let is_input : all.bytes ≡ input = taken_whole input all.bytes q.left consumed nothing in
      let told : Messages users input all.requests all.end =
      subst (λ (us : List User). Messages us input all.requests all.end) same (subst (λ (bs : List ℕ). Messages s.users bs all.requests all.end) is_input all.messages) in
      let end_is : all.end ≡ whole.1 = (messages_same users 0 0 input all.requests whole.0 all.end whole.1 told whole.2).1 in
      done whole.1 whole.3 (subst (λ (e : End). Leaves false e) end_is all.ends) where
        done : (end : End) → IsDone end → Leaves false end → ⊥
        done LastGiven fine broken = broken
        done (Left rest) fine broken = let never : true ≡ false = sym fine ∙ broken in absurd (cc)
        done (RefusedAt why offset) fine broken = broken

-- ---- all together

module _ {S K E C F P : Type 0} (p q : WorldState S K E C F P) where
  whole_pipe : (names : FileNames) (contents : Contents) (left : Option (List ℕ)) (end : run_end)
      → p.told.contents ≡ contents → p.told.left ≡ left → AreWhole contents left names → ¬ (HasFault p.told q.told)
      → PipeSays names p q end → (number_of end ≡ 0) ⊎ (number_of end ≡ 8)
  whole_pipe names None left end holds has whole no_fault says = absurd whole
  whole_pipe names (Some files) None end holds has whole no_fault says = absurd whole
  whole_pipe names (Some files) (Some input) end holds has whole no_fault says = by_end end says where
    by_end : (end : run_end) → PipeSays names p q end → (number_of end ≡ 0) ⊎ (number_of end ≡ 8)
    by_end ends.Well s = inl refl
    by_end ends.Usage s = absurd s
    by_end (ends.BadFile name line) s =
        absurd (no_bad_file files names whole.0 whole.1 whole.2 whole.3 name line (subst (λ (k : Contents). IsBadFile k names name line) holds s.0))
    by_end ends.BrokeOff s = absurd (not_broken files names whole.0 whole.1 whole.2 whole.3 input whole.4 p.told q.told holds has s)
    by_end ends.ReadFault s = absurd (no_fault (inl s.0))
    by_end ends.WriteFault s = absurd (no_fault (inr (inl s.0)))
    by_end (ends.FileFault name) s = absurd (no_fault (inr (inr s.1)))
    by_end ends.NoMemory s = inr refl
    by_end ends.OtherRight s = absurd s

  whole_run : (words : Option Command) (end : run_end)
      → ForPipe words (AreWhole p.told.contents p.told.left) → ¬ (HasFault p.told q.told)
      → WorkSays words p q end → (number_of end ≡ 0) ⊎ (number_of end ≡ 8)
  whole_run None end whole no_fault says = absurd whole
  whole_run (Some (AccessOf question path)) end whole no_fault says = absurd whole
  whole_run (Some (Pipe names)) end whole no_fault says = whole_pipe names p.told.contents p.told.left end refl refl whole no_fault says

-- .. where the world after is `q`, which `q0` gives by its parts
module _ {S K E C F P : Type 0} (p q0 q : WorldState S K E C F P) (same : q0 ≡ q) where
  pub whole_after : (words : Option Command) (end : run_end)
      → ForPipe words (AreWhole p.told.contents p.told.left) → ¬ (HasFault p.told q0.told)
      → WorkSays words p q end → (number_of end ≡ 0) ⊎ (number_of end ≡ 8)
  whole_after words end whole no_fault says =
      whole_run p q0 words end whole no_fault (subst (λ (w : WorldState S K E C F P). WorkSays words p w end) (sym same) says)
