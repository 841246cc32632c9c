-- What a digester has taken, and the sum of a content.
use Rattle.std.specs.Prelude.{◌≡◌, ℕ, List, length}
use Rattle.md5.specs.Md5 as M
use Rattle.sha2.specs.Hashers.{Holds224, Holds256, Holds384, Holds512}
use Rattle.key_verify.specs.declared.method.Method.{Method}
use Rattle.key_verify.specs.declared.method.Method.TheVariants as methods
use Rattle.key_verify.specs.declared.digester.Sum.{Sum}
use Rattle.key_verify.specs.declared.digester.Hasher.{Hasher}
use Rattle.key_verify.specs.declared.digester.Hasher.TheVariants as hashers
use Rattle.key_verify.specs.declared.digester.Digester.{Digester}
use Rattle.key_verify.specs.Digests.{key_method, digest_of}

-- the size of a content, and the digest that the key asks for
abbrev pub sum_of : List ℕ → List ℕ → Sum
sum_of key bytes = record { size = length bytes; digest = digest_of (key_method key) bytes }

-- the sum of a content whose key is to be made: its size, and its SHA-256 digest
abbrev pub made_sum : List ℕ → Sum
made_sum bytes = record { size = length bytes; digest = digest_of methods.Sha256 bytes }

-- the hasher is of this method, and holds these bytes
abbrev pub Hashes : Hasher → Method → List ℕ → Type 0
Hashes hashers.SizeOnly methods.SizeOnly bytes = Unit {0}
Hashes (hashers.Md5 h) methods.Md5 bytes = M.Holds h bytes
Hashes (hashers.Sha224 h) methods.Sha224 bytes = Holds224 h bytes
Hashes (hashers.Sha256 h) methods.Sha256 bytes = Holds256 h bytes
Hashes (hashers.Sha384 h) methods.Sha384 bytes = Holds384 h bytes
Hashes (hashers.Sha512 h) methods.Sha512 bytes = Holds512 h bytes
Hashes h method bytes = ⊥

-- how many bytes a digester has taken
abbrev pub bytes_taken : Digester → ℕ
bytes_taken d = d.size

-- the digester was made for the key, and has taken these bytes, in whatever pieces
pub record HasTaken (d : Digester) (key bytes : List ℕ) : Type 0 where
  pub count : bytes_taken d ≡ length bytes
  pub hashes : Hashes d.hasher (key_method key) bytes
