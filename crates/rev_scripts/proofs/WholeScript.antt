-- A whole script: its head, its first revision, and the others.
use Rattle.std.proofs.Common.{◌≡◌, ℕ, List, [], ◌∷◌, Result, Ok, Err, length, map, refl, sym, ap, ◌∙◌, subst}
use Rattle.dsv_base.specs.Gives.{GivesBy, ◌>>=◌}
use Rattle.rev_nodes.specs.declared.commit.Commit.{Commit}
use Rattle.rev_nodes.specs.Trees.{Revision, Repository}
use Rattle.rev_nodes.specs.Pushes.{first_revision}
use Rattle.rev_nodes.specs.Forests.{Forest, repository_of}
use Rattle.rev_trees.specs.Readies.{revisions_of}
use Rattle.rev_scripts.specs.declared.script_fault.ScriptFault.{ScriptFault}
use Rattle.rev_scripts.specs.Scripts.{Read, heading_from, revision_from, revisions_from, repository_from, wants_memory}
use Rattle.rev_scripts.specs.Reading.{zeroth_from, with_revisions}

-- what comes behind the head and the first revision
abbrev behind_zeroth : List ℕ → List ℕ → Commit → ℕ → List ℕ → Result Repository ScriptFault
behind_zeroth name uuid commit line text = revisions_from (length text) (first_revision commit ∷ []) line text >>= (λ revisions. let r : Result Repository ScriptFault = Ok (record { name = name; uuid = uuid; revisions = revisions }) in r)

ok_is : {X : Type 0} (x y : X) → (let r : Result X ScriptFault = Ok x in r) ≡ Ok y → x ≡ y
ok_is x y e = cc

after_zeroth : (name uuid : List ℕ) (commit zeroth : Commit) (line : ℕ) (text : List ℕ) (after : Result (ℕ × List ℕ) ScriptFault) → (after >>= (λ a. let r : Result (Commit × ℕ × List ℕ) ScriptFault = Ok (commit, a.0, a.1) in r)) ≡ Ok (zeroth, line, text)
    → (after >>= (λ a. behind_zeroth name uuid commit a.0 a.1)) ≡ behind_zeroth name uuid zeroth line text
after_zeroth name uuid commit zeroth line text (Ok a) e =
    let p : (commit, a.0, a.1) ≡ (zeroth, line, text) = ok_is {X = Commit × ℕ × List ℕ} (commit, a.0, a.1) (zeroth, line, text) e in
    ap (λ (t : Commit × ℕ × List ℕ). behind_zeroth name uuid t.0 t.1 t.2) p
after_zeroth name uuid commit zeroth line text (Err why) e = absurd (cc e)

read_zeroth : (name uuid : List ℕ) (zeroth : Commit) (line : ℕ) (text : List ℕ) (read : Result Read ScriptFault) → (read >>= (λ z. z.after >>= (λ a. let r : Result (Commit × ℕ × List ℕ) ScriptFault = Ok (z.commit, a.0, a.1) in r))) ≡ Ok (zeroth, line, text)
    → (read >>= (λ z. z.after >>= (λ a. behind_zeroth name uuid z.commit a.0 a.1))) ≡ behind_zeroth name uuid zeroth line text
read_zeroth name uuid zeroth line text (Ok z) e = after_zeroth name uuid z.commit zeroth line text z.after e
read_zeroth name uuid zeroth line text (Err why) e = absurd (cc e)

whole_is : (bytes name uuid rest : List ℕ) (zeroth : Commit) (line : ℕ) (text : List ℕ) → heading_from bytes ≡ Ok (name, uuid, rest) → zeroth_from rest ≡ Ok (zeroth, line, text) → repository_from bytes ≡ behind_zeroth name uuid zeroth line text
unfolding repository_from
whole_is bytes name uuid rest zeroth line text h z =
    ap (λ (r : Result (List ℕ × List ℕ × List ℕ) ScriptFault). r >>= (λ heading. revision_from 0 4 heading.2 >>= (λ z. z.after >>= (λ a. behind_zeroth heading.0 heading.1 z.commit a.0 a.1)))) h
    ∙ read_zeroth name uuid zeroth line text (revision_from 0 4 rest) z

pub whole_script : (bytes name uuid rest : List ℕ) (zeroth : Commit) (line : ℕ) (text : List ℕ) (trees : Forest) (T : Type 0) (result : Result T ScriptFault) (view : T → Repository) → heading_from bytes ≡ Ok (name, uuid, rest) → zeroth_from rest ≡ Ok (zeroth, line, text)
    → repository_of trees ≡ record { name = name; uuid = uuid; revisions = first_revision zeroth ∷ [] }
    → GivesBy view wants_memory result (with_revisions trees (revisions_from (length text) (revisions_of trees) line text)) → GivesBy view wants_memory result (repository_from bytes)
whole_script bytes name uuid rest zeroth line text trees T result view h z is gives =
    let n : trees.name ≡ name = ap (λ (r : Repository). r.name) is in
    let u : trees.uuid ≡ uuid = ap (λ (r : Repository). r.uuid) is in
    let rs : revisions_of trees ≡ first_revision zeroth ∷ [] = ap (λ (r : Repository). r.revisions) is in
    let same : with_revisions trees (revisions_from (length text) (revisions_of trees) line text) ≡ behind_zeroth name uuid zeroth line text =
    λ i. revisions_from (length text) (rs i) line text >>= (λ revisions. let r : Result Repository ScriptFault = Ok (record { name = n i; uuid = u i; revisions = revisions }) in r) in
    subst (GivesBy view wants_memory result) (same ∙ sym (whole_is bytes name uuid rest zeroth line text h z)) gives
