-- What holds of the tables as a whole.
use Rattle.std.specs.Prelude.{ℕ, ◌≡◌, Bool, List, [], ◌∷◌, map, ◌==◌, ◌||◌, IsTrue, Some}
use Rattle.dsv_base.specs.declared.form.Form.{Form}
use Rattle.dav_replies.specs.declared.allow_kind.AllowKind.{AllowKind}
use Rattle.dav_replies.specs.declared.refusal.Refusal.{Refusal}
use Rattle.dav_replies.specs.declared.refusal.Refusal.TheVariants.{BadMessage, BadTarget, BadBody, BadHeader, NeedsLogin, Denied, InfiniteDepth, NoNode, NoRevision, NoTransaction, WrongMethod, Exists, NoParent, OutOfDate, Conflict, WrongToken, WrongText, NotOverwritten, BodyTooLarge, Locked, HeadTooLarge, KeeperFault, NotInProfile, NoMemory, FullRevisions, TooManyTransactions, TooManyChanges, PathTooLong, TooManyLocks}
use Rattle.dav_replies.specs.declared.method.Method.{Method}
use Rattle.dav_replies.specs.Methods.{method_name, method_of}
use Rattle.dav_replies.specs.Tables.{row_of, has_reason}

-- what refusals name
pub record Named : Type 0 where
  pub rev : ℕ
  pub created : ℕ
  pub taken : AllowKind
  pub occupied : AllowKind
  pub changed : List ℕ
  pub locked : List ℕ
  pub told : List ℕ
  pub got : List ℕ
  pub form : Form

-- one refusal of each kind, in the order of the codes
abbrev pub refusals : Named → List Refusal
refusals n =
    BadMessage ∷ BadTarget ∷ BadBody ∷ BadHeader ∷ NeedsLogin ∷ Denied ∷ InfiniteDepth ∷ NoNode ∷ NoRevision n.rev ∷ NoTransaction
    ∷ WrongMethod n.taken ∷ Exists n.occupied ∷ NoParent ∷ OutOfDate n.created ∷ Conflict n.changed ∷ WrongToken ∷ WrongText n.told n.got ∷ NotOverwritten ∷ BodyTooLarge ∷ Locked n.locked
    ∷ HeadTooLarge ∷ KeeperFault ∷ NotInProfile n.form ∷ NoMemory ∷ FullRevisions ∷ TooManyTransactions ∷ TooManyChanges ∷ PathTooLong ∷ TooManyLocks ∷ []

-- the codes are 1 to 29, in the refusals' order
abbrev pub CodesAreInOrder : Type 0
CodesAreInOrder = (n : Named) → map (λ r. (row_of r).code) (refusals n) ≡
    1 ∷ 2 ∷ 3 ∷ 4 ∷ 5 ∷ 6 ∷ 7 ∷ 8 ∷ 9 ∷ 10 ∷ 11 ∷ 12 ∷ 13 ∷ 14 ∷ 15 ∷ 16 ∷ 17 ∷ 18 ∷ 19 ∷ 20 ∷ 21 ∷ 22 ∷ 23 ∷ 24 ∷ 25 ∷ 26 ∷ 27 ∷ 28 ∷ 29 ∷ []

-- each refusal's status has a reason
abbrev pub StatusesHaveReasons : Type 0
StatusesHaveReasons = (r : Refusal) → IsTrue (has_reason (row_of r).status)

-- the codes of the refusals that end the connection
abbrev pub is_ending_code : ℕ → Bool
is_ending_code code = code == 1 || code == 19 || code == 21

-- the refusals that end the connection are those of these codes
abbrev pub EndingCodes : Type 0
EndingCodes = (r : Refusal) → (row_of r).closing ≡ is_ending_code (row_of r).code

-- each method is read by its own name
abbrev pub MethodsReadBack : Type 0
MethodsReadBack = (method : Method) → method_of (method_name method) ≡ Some method
