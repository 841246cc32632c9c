-- Which digest a key asks for, and the digest that its name tells (git-annex backends; RFC 1321; FIPS 180-4).
use Rattle.std.specs.Prelude.{ℕ, ◌-◌, Bool, List, [], length, slice_index, Option, Some, None, codes, ◌==◌, ◌||◌, if◌then◌else◌}
use Rattle.std.specs.List.{before_first}
use Rattle.std.specs.Str.{bytes_eq}
use Rattle.hex.specs.Hex.{encode_lower}
use Rattle.md5.specs.Md5.{md5}
use Rattle.sha2.specs.Sha256.{sha224, sha256}
use Rattle.sha2.specs.Sha512.{sha384, sha512}
use Rattle.annex_key.specs.KeyText.{is_digest_backend}
use Rattle.annex_key.specs.View.{backend_part, name_part}
use Rattle.key_verify.specs.declared.method.Method.{Method}
use Rattle.key_verify.specs.declared.method.Method.TheVariants as methods
use Rattle.key_verify.specs.declared.digester.Digest.{Digest}
use Rattle.key_verify.specs.declared.digester.Digest.TheVariants as digests

abbrev pub is_either : List ℕ → List ℕ → List ℕ → Bool
is_either word first second = bytes_eq word first || bytes_eq word second

-- the ten digest backends, without and with an extension; the content of all others is known by its size alone
abbrev pub method_of : List ℕ → Method
method_of backend =
    if is_either backend (codes "MD5") (codes "MD5E") then methods.Md5
    else if is_either backend (codes "SHA224") (codes "SHA224E") then methods.Sha224
    else if is_either backend (codes "SHA256") (codes "SHA256E") then methods.Sha256
    else if is_either backend (codes "SHA384") (codes "SHA384E") then methods.Sha384
    else if is_either backend (codes "SHA512") (codes "SHA512E") then methods.Sha512
    else methods.SizeOnly

-- the method of a key's backend
abbrev pub key_method : List ℕ → Method
key_method key = method_of (backend_part key)

-- the digest of a content
abbrev pub digest_of : Method → List ℕ → Digest
digest_of methods.SizeOnly bytes = digests.SizeOnly
digest_of methods.Md5 bytes = digests.Md5 (md5 bytes)
digest_of methods.Sha224 bytes = digests.Sha224 (sha224 bytes)
digest_of methods.Sha256 bytes = digests.Sha256 (sha256 bytes)
digest_of methods.Sha384 bytes = digests.Sha384 (sha384 bytes)
digest_of methods.Sha512 bytes = digests.Sha512 (sha512 bytes)

-- a digest's bytes
abbrev pub digest_bytes : Digest → List ℕ
digest_bytes digests.SizeOnly = []
digest_bytes (digests.Md5 bytes) = bytes
digest_bytes (digests.Sha224 bytes) = bytes
digest_bytes (digests.Sha256 bytes) = bytes
digest_bytes (digests.Sha384 bytes) = bytes
digest_bytes (digests.Sha512 bytes) = bytes

-- a digest in lower-case hexadecimal digits
abbrev pub digest_text : Digest → List ℕ
digest_text digest = encode_lower (digest_bytes digest)

-- a backend that ends in `E` has an extension after the digest
abbrev pub has_extension : List ℕ → Bool
has_extension backend = slice_index backend (length backend - 1) == 69

abbrev pub is_dot : ℕ → Bool
is_dot b = b == 46

-- the digest in a name: all of it, or what stands before the first dot, at which the extension begins
abbrev pub told_digest : List ℕ → List ℕ → List ℕ
told_digest backend name = if has_extension backend then before_first is_dot name else name

-- the digest that a key tells, where its backend is one of the ten
abbrev pub wanted_digest : List ℕ → Option (List ℕ)
wanted_digest key = if is_digest_backend (backend_part key) then Some (told_digest (backend_part key) (name_part key)) else None
