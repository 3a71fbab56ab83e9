-- Worked rows of the definitions.
use Rattle.std.proofs.Common.{◌≡◌, true, false, [], ◌∷◌, Some, None, codes, refl}
use Rattle.std.specs.Str.{is_utf8, chars}
use Rattle.std.proofs.Math.Utf8.{encode}
use Rattle.dsv_base.specs.Paths.{name_of, join_text, parent_text}
use Rattle.dsv_base.specs.Escapes.{xml_text, xml_plain, url_text}

names : (name_of (codes "/") ≡ []) × (name_of (codes "/a") ≡ codes "a") × (name_of (codes "/a/b.c") ≡ codes "b.c")
unfolding name_of
names = (refl, refl, refl)

joins : (join_text (codes "/") (codes "a") ≡ codes "/a") × (join_text (codes "/a") (codes "b") ≡ codes "/a/b")
unfolding join_text
joins = (refl, refl)

parents : (parent_text (codes "/") ≡ None) × (parent_text (codes "/a") ≡ Some (codes "/")) × (parent_text (codes "/a/b") ≡ Some (codes "/a"))
unfolding parent_text
parents = (refl, refl, refl)

written_xml : xml_text (codes "a<b>&\"\r\n") ≡ codes "a&lt;b&gt;&amp;&quot;&#13;\n"
unfolding xml_text
written_xml = refl

written_url : (url_text (codes "/a-Z.0_9~") ≡ codes "/a-Z.0_9~") × (url_text (codes "/a b%?") ≡ codes "/a%20b%25%3F") × (url_text (47 ∷ 195 ∷ 169 ∷ []) ≡ codes "/%C3%A9")
unfolding url_text
written_url = (refl, refl, refl)

plain : (xml_plain (codes "a\t\r\n<") ≡ true) × (xml_plain (195 ∷ 169 ∷ []) ≡ true) × (xml_plain (11 ∷ []) ≡ false) × (xml_plain (239 ∷ 191 ∷ 190 ∷ []) ≡ false) × (xml_plain (255 ∷ []) ≡ false)
unfolding xml_plain is_utf8 chars encode
plain = (refl, refl, refl, refl, refl)
