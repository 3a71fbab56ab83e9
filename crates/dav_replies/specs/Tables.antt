-- The tables of replies: refusals, forms, reasons.
use Rattle.std.specs.Prelude.{ℕ, Bool, true, false, List, ◌==◌, codes, Option, Some, None, is_some, if◌then◌else◌}
use Rattle.dsv_base.specs.declared.form.Form.{Form}
use Rattle.dsv_base.specs.declared.form.Form.TheVariants.{Svndiff, ContentEncoding, PostType, IfCondition, CopyDepth, Doctype, Processing, Propname, SharedLock, LockRefresh, Report, ReportPlace, Switch, UpdateTarget, LinkPath, Mixed, Depth, SeveralPaths, MergedRevisions, Later}
use Rattle.dav_replies.specs.declared.client.Client.{Client}
use Rattle.dav_replies.specs.declared.client.Client.TheVariants.{Plain, Guest}
use Rattle.dav_replies.specs.declared.refusal.Refusal.{Refusal}
use Rattle.dav_replies.specs.declared.refusal.Refusal.TheVariants.{BadMessage, BadTarget, BadBody, BadHeader, NeedsLogin, Denied, InfiniteDepth, NoNode, NoRevision, NoTransaction, WrongMethod, Exists, NoParent, OutOfDate, Conflict, WrongToken, WrongText, NotOverwritten, BodyTooLarge, Locked, HeadTooLarge, KeeperFault, NotInProfile, NoMemory, FullRevisions, TooManyTransactions, TooManyChanges, PathTooLong, TooManyLocks}

-- a refusal's code, name and status, and whether it ends the connection
pub record RefusalRow : Type 0 where
  pub code : ℕ
  pub name : List ℕ
  pub status : ℕ
  pub closing : Bool

-- the row of a refusal after which the connection goes on
abbrev pub staying : ℕ → List ℕ → ℕ → RefusalRow
staying code name status = record { code = code; name = name; status = status; closing = false }

-- the row of a refusal that ends the connection
abbrev pub ending : ℕ → List ℕ → ℕ → RefusalRow
ending code name status = record { code = code; name = name; status = status; closing = true }

-- the table of refusals, each with its own row
abbrev pub row_of : Refusal → RefusalRow
row_of BadMessage = ending 1 (codes "BadMessage") 400
row_of BadTarget = staying 2 (codes "BadTarget") 400
row_of BadBody = staying 3 (codes "BadBody") 400
row_of BadHeader = staying 4 (codes "BadHeader") 400
row_of NeedsLogin = staying 5 (codes "NeedsLogin") 401
row_of Denied = staying 6 (codes "Denied") 403
row_of InfiniteDepth = staying 7 (codes "InfiniteDepth") 403
row_of NoNode = staying 8 (codes "NoNode") 404
row_of (NoRevision rev) = staying 9 (codes "NoRevision") 404
row_of NoTransaction = staying 10 (codes "NoTransaction") 404
row_of (WrongMethod kind) = staying 11 (codes "WrongMethod") 405
row_of (Exists kind) = staying 12 (codes "Exists") 405
row_of NoParent = staying 13 (codes "NoParent") 409
row_of (OutOfDate created) = staying 14 (codes "OutOfDate") 409
row_of (Conflict path) = staying 15 (codes "Conflict") 409
row_of WrongToken = staying 16 (codes "WrongToken") 409
row_of (WrongText told got) = staying 17 (codes "WrongText") 409
row_of NotOverwritten = staying 18 (codes "NotOverwritten") 412
row_of BodyTooLarge = ending 19 (codes "BodyTooLarge") 413
row_of (Locked path) = staying 20 (codes "Locked") 423
row_of HeadTooLarge = ending 21 (codes "HeadTooLarge") 431
row_of KeeperFault = staying 22 (codes "KeeperFault") 500
row_of (NotInProfile form) = staying 23 (codes "NotInProfile") 501
row_of NoMemory = staying 24 (codes "NoMemory") 503
row_of FullRevisions = staying 25 (codes "FullRevisions") 507
row_of TooManyTransactions = staying 26 (codes "TooManyTransactions") 507
row_of TooManyChanges = staying 27 (codes "TooManyChanges") 507
row_of PathTooLong = staying 28 (codes "PathTooLong") 507
row_of TooManyLocks = staying 29 (codes "TooManyLocks") 507

-- the number, one of Subversion's own (svn_error_codes.h), by which its clients go where davsvn refuses so; most refusals that they can't act on have that of a request which failed
abbrev pub subversion_code : Refusal → ℕ
subversion_code BadTarget = 160005
subversion_code NeedsLogin = 170001
subversion_code Denied = 220001
subversion_code NoNode = 160013
subversion_code (NoRevision rev) = 160006
subversion_code NoTransaction = 160007
subversion_code (WrongMethod kind) = 175008
subversion_code (Exists kind) = 160020
subversion_code NoParent = 160013
subversion_code (OutOfDate created) = 160028
subversion_code (Conflict path) = 160024
subversion_code WrongToken = 160040
subversion_code (WrongText told got) = 200014
subversion_code NotOverwritten = 160020
subversion_code (Locked path) = 160035
subversion_code (NotInProfile form) = 200007
subversion_code _ = 175002

-- the number by which a client is told a refusal: one of Subversion's goes by Subversion's numbers, but where the connection ends
abbrev pub code_for : Client → Refusal → ℕ
code_for Plain refusal = (row_of refusal).code
code_for Guest refusal = if (row_of refusal).closing then (row_of refusal).code else subversion_code refusal

-- the name of a form that is left out
abbrev pub form_name : Form → List ℕ
form_name Svndiff = codes "svndiff"
form_name ContentEncoding = codes "content-encoding"
form_name PostType = codes "post-type"
form_name IfCondition = codes "if-condition"
form_name CopyDepth = codes "copy-depth"
form_name Doctype = codes "doctype"
form_name Processing = codes "processing"
form_name Propname = codes "propname"
form_name SharedLock = codes "shared-lock"
form_name LockRefresh = codes "lock-refresh"
form_name Report = codes "report"
form_name ReportPlace = codes "report-place"
form_name Switch = codes "switch"
form_name UpdateTarget = codes "update-target"
form_name LinkPath = codes "link-path"
form_name Mixed = codes "mixed"
form_name Depth = codes "depth"
form_name SeveralPaths = codes "several-paths"
form_name MergedRevisions = codes "merged-revisions"
form_name Later = codes "later"

-- the reason phrase of a status that a reply may have (RFC 9110, section 15; RFC 4918, section 11; RFC 6585, section 5)
abbrev pub reason_of : ℕ → Option (List ℕ)
reason_of status =
    if status == 200 then Some (codes "OK")
    else if status == 201 then Some (codes "Created")
    else if status == 204 then Some (codes "No Content")
    else if status == 207 then Some (codes "Multi-Status")
    else if status == 400 then Some (codes "Bad Request")
    else if status == 401 then Some (codes "Unauthorized")
    else if status == 403 then Some (codes "Forbidden")
    else if status == 404 then Some (codes "Not Found")
    else if status == 405 then Some (codes "Method Not Allowed")
    else if status == 409 then Some (codes "Conflict")
    else if status == 412 then Some (codes "Precondition Failed")
    else if status == 413 then Some (codes "Content Too Large")
    else if status == 423 then Some (codes "Locked")
    else if status == 431 then Some (codes "Request Header Fields Too Large")
    else if status == 500 then Some (codes "Internal Server Error")
    else if status == 501 then Some (codes "Not Implemented")
    else if status == 503 then Some (codes "Service Unavailable")
    else if status == 507 then Some (codes "Insufficient Storage")
    else None

-- whether a reply may have a status
abbrev pub has_reason : ℕ → Bool
has_reason status = is_some (reason_of status)
