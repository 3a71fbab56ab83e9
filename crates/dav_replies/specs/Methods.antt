-- The methods of requests, and which resource takes which of them.
use Rattle.std.specs.Prelude.{ℕ, Bool, List, [], ◌∷◌, codes, Option}
use Rattle.std.specs.List.{find, list_any, join_by}
use Rattle.std.specs.Str.{bytes_eq}
use Rattle.dav_replies.specs.declared.allow_kind.AllowKind.{AllowKind}
use Rattle.dav_replies.specs.declared.allow_kind.AllowKind.TheVariants.{Public, Rvr, RevOnly, Me, Txr, TxrRoot, Txn}
use Rattle.dav_replies.specs.declared.method.Method.{Method}
use Rattle.dav_replies.specs.declared.method.Method.TheVariants.{Options, Get, Head, Propfind, Report, Post, Put, Mkcol, Proppatch, Delete, Copy, Merge, Lock, Unlock}

-- a method's name in the first line of a request (RFC 9110, section 9.3; RFC 4918, section 9; RFC 3253, section 3.6)
abbrev pub method_name : Method → List ℕ
method_name Options = codes "OPTIONS"
method_name Get = codes "GET"
method_name Head = codes "HEAD"
method_name Propfind = codes "PROPFIND"
method_name Report = codes "REPORT"
method_name Post = codes "POST"
method_name Put = codes "PUT"
method_name Mkcol = codes "MKCOL"
method_name Proppatch = codes "PROPPATCH"
method_name Delete = codes "DELETE"
method_name Copy = codes "COPY"
method_name Merge = codes "MERGE"
method_name Lock = codes "LOCK"
method_name Unlock = codes "UNLOCK"

-- all methods
abbrev pub methods : List Method
methods =
    Options ∷ Get ∷ Head ∷ Propfind ∷ Report ∷ Post ∷ Put ∷ Mkcol ∷ Proppatch ∷ Delete
    ∷ Copy ∷ Merge ∷ Lock ∷ Unlock ∷ []

-- whether a method has a name; the case of letters counts (RFC 9110, section 9.1)
abbrev pub has_name : List ℕ → Method → Bool
has_name name method = bytes_eq (method_name method) name

-- the method that has a name
unfoldable pub method_of : List ℕ → Option Method
method_of name = find (has_name name) methods

-- the methods that a resource takes, in the order in which Allow lists them
abbrev pub methods_of : AllowKind → List Method
methods_of Public = Options ∷ Get ∷ Head ∷ Propfind ∷ Report ∷ Copy ∷ Merge ∷ Lock ∷ Unlock ∷ []
methods_of Rvr = Get ∷ Head ∷ Propfind ∷ Report ∷ Copy ∷ []
methods_of RevOnly = Propfind ∷ []
methods_of Me = Post ∷ Report ∷ []
methods_of Txr = Put ∷ Mkcol ∷ Proppatch ∷ Delete ∷ []
methods_of TxrRoot = Proppatch ∷ []
methods_of Txn = Proppatch ∷ Delete ∷ []

-- whether a resource takes a method
unfoldable pub is_allowed : AllowKind → Method → Bool
is_allowed kind method = list_any (has_name (method_name method)) (methods_of kind)

-- the value of the field Allow: the names of the methods that a resource takes (RFC 9110, section 10.2.1)
unfoldable pub allow_list : AllowKind → List ℕ
allow_list kind = join_by method_name (codes ", ") (methods_of kind)
