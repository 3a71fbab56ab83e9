-- Worked rows of the definitions.
use Rattle.std.proofs.Common.{◌≡◌, ℕ, List, Some, None, codes, refl}
use Rattle.std.specs.Str.{is_utf8, chars}
use Rattle.std.proofs.Math.Utf8.{encode}
use Rattle.percent_encoding.specs.Percent.{percent_decode}
use Rattle.dsv_base.specs.Escapes.{url_text}
use Rattle.dsv_base.specs.Numbers.{read_decimal}
use Rattle.dsv_base.specs.Paths.{is_path}
use Rattle.dsv_base.specs.declared.txn_name.TxnName.{TxnName}
use Rattle.std.specs.Fmt.{digits}
use Rattle.dav_names.specs.declared.resource.Resource.TheVariants.{Public, Me, Rvr, RevOnly, Txr, Txn}
use Rattle.dav_names.specs.Escaped.{unescaped}
use Rattle.dav_names.specs.Targets.{resource_behind, path_from_parts, target, target_path, txn_named, without_slash}
use Rattle.dav_names.specs.Written.{resource_text, target_text}

abbrev demo : List ℕ
demo = codes "/svn/demo"

abbrev three_one : TxnName
three_one = record { base = 3; number = 1 }

read : (target demo (codes "/svn/demo/a%20b/") ≡ Some (Public (codes "/a b")))
    × (target demo (codes "HTTP://h:80/svn/demo") ≡ Some (Public (codes "/")))
    × (target demo (codes "/svn/demo/%21svn/me/") ≡ Some Me)
    × (target demo (codes "/svn/demo/!svn/rvr/5/a") ≡ Some (Rvr 5 (codes "/a")))
    × (target demo (codes "/svn/demo/!svn/rev/2000000000") ≡ Some (RevOnly 2000000000))
    × (target demo (codes "/svn/demo/!svn/txr/3-1") ≡ Some (Txr three_one (codes "/")))
    × (target demo (codes "/svn/demo/!svn/txn/3-1") ≡ Some (Txn three_one))
unfolding target target_path without_slash unescaped percent_decode resource_behind path_from_parts is_path read_decimal txn_named is_utf8 chars encode
read = (refl, refl, refl, refl, refl, refl, refl)

unread : (target demo (codes "/svn/demoX") ≡ None)
    × (target demo (codes "/svn/demo//") ≡ None)
    × (target demo (codes "/svn/demo/a?b") ≡ None)
    × (target demo (codes "/svn/demo/a%2Fb") ≡ None)
    × (target demo (codes "/svn/demo/%2") ≡ None)
    × (target demo (codes "/svn/demo/!svn/rvr/05") ≡ None)
    × (target demo (codes "/svn/demo/!svn/txn/3-0") ≡ None)
unfolding target target_path without_slash unescaped percent_decode resource_behind path_from_parts is_path read_decimal txn_named is_utf8 chars encode
unread = (refl, refl, refl, refl, refl, refl, refl)

written : (target_text demo (Public (codes "/")) ≡ demo)
    × (target_text demo (Public (codes "/a b")) ≡ codes "/svn/demo/a%20b")
    × (target_text demo Me ≡ codes "/svn/demo/!svn/me")
    × (target_text demo (Rvr 0 (codes "/")) ≡ codes "/svn/demo/!svn/rvr/0")
    × (target_text demo (RevOnly 12) ≡ codes "/svn/demo/!svn/rev/12")
    × (target_text demo (Txr three_one (codes "/x%")) ≡ codes "/svn/demo/!svn/txr/3-1/x%25")
    × (target_text demo (Txn three_one) ≡ codes "/svn/demo/!svn/txn/3-1")
unfolding target_text resource_text url_text digits
written = (refl, refl, refl, refl, refl, refl, refl)
