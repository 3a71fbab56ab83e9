-- Sums of a text, by which it is told from others.
use Rattle.std.specs.Prelude.{ℕ, ◌≡◌, List}
use Rattle.md5.specs.Md5.{md5}
use Rattle.sha1.specs.Sha1.{sha1}

-- the first is the MD5 (RFC 1321) of the text, and the second its SHA-1 (RFC 3174)
pub record AreSumsOf (text short long : List ℕ) : Type 0 where
  pub md5_is : short ≡ md5 text
  pub sha1_is : long ≡ sha1 text
