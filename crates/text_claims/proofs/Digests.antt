-- Hash directories, contents and made keys, by digests that the standards, coreutils and git-annex give (by computation).
use Rattle.std.specs.Prelude.{◌≡◌, refl, ℕ, List, [], ◌∷◌, ◌++◌, map, take, drop, replicate, Option, Some, codes}
use Rattle.std.specs.Fmt.{digits}
use Rattle.std.specs.Str.{is_utf8, chars}
use Rattle.std.specs.Str.Lossy.{utf8_valid_len}
use lib.Utf8.{encode as utf8_encode}
use Rattle.hex.specs.Hex.{encode_lower, encode_with}
use Rattle.md5.specs.Md5.{block_words, rounds, compress, hash_after, digest_bytes, md5}
use Rattle.sha2.specs.Sha256.{first_words as first_words_256, schedule as schedule_256, rounds as rounds_256, compress as compress_256, hash_after as hash_after_256, digest_bytes as digest_bytes_256, sha224, sha256}
use Rattle.sha2.specs.Sha512.{first_words as first_words_512, schedule as schedule_512, rounds as rounds_512, compress as compress_512, hash_after as hash_after_512, digest_bytes as digest_bytes_512, sha384, sha512}
use Rattle.annex_base.specs.Decimal.{number_of}
use Rattle.annex_key.specs.KeyText.{key_text}
use Rattle.annex_key.specs.Reading.{backend_at, number_at, field_at, must_at, chunk_at, checked_name, name_at, parts_at, key_at}
use Rattle.hash_dirs.specs.LogPath.{location_path}
use Rattle.key_verify.specs.declared.verdict.Verdict.{Verdict}
use Rattle.key_verify.specs.declared.verdict.Verdict.TheVariants.{Right, WrongSize, WrongDigest}
use Rattle.key_verify.specs.MakingKeys.{made_key}
use Rattle.key_verify.specs.Matching.{verdict_of}
use Rattle.key_verify.specs.Sums.{sum_of}
use Rattle.text_claims.proofs.Cases.{Answers}
use Rattle.text_claims.proofs.Keys.{of_key}

unfoldable opened : Unit {0}
unfolding digits is_utf8 chars utf8_valid_len utf8_encode encode_with block_words rounds compress hash_after digest_bytes md5 first_words_256 schedule_256 rounds_256 compress_256 hash_after_256 digest_bytes_256 sha224 sha256 first_words_512 schedule_512 rounds_512 compress_512 hash_after_512 digest_bytes_512 sha384 sha512 number_of backend_at number_at field_at must_at chunk_at checked_name name_at parts_at key_at
opened = tt

-- ---- the two hash directories of a name

abbrev dirs : List ℕ → List ℕ × List ℕ
dirs name = let text = encode_lower (md5 name) in (take 3 text, take 3 (drop 3 text))

-- by the digests of RFC 1321, appendix A.5
abbrev hash_dir_cases : List (List ℕ × (List ℕ × List ℕ))
hash_dir_cases =
    ([], (codes "d41", codes "d8c"))
    ∷ (codes "a", (codes "0cc", codes "175"))
    ∷ (codes "abc", (codes "900", codes "150"))
    ∷ (codes "message digest", (codes "f96", codes "b69"))
    ∷ (codes "abcdefghijklmnopqrstuvwxyz", (codes "c3f", codes "cd3"))
    ∷ (codes "ABCDEFGHIJKLMNOPQRSTUVWXYZabcdefghijklmnopqrstuvwxyz0123456789", (codes "d17", codes "4ab"))
    ∷ (codes "12345678901234567890123456789012345678901234567890123456789012345678901234567890", (codes "57e", codes "df4"))
    ∷ []

hash_dirs : Answers dirs hash_dir_cases
unfolding opened
hash_dirs = refl

-- the path of a key's location log; the first two as git-annex has them. A chunk's directories are those of the key
-- without its chunk.
abbrev location_log_cases : List (List ℕ × Option (List ℕ))
location_log_cases =
    (codes "SHA1-s35--47c57bd0cfe45117c4e2063869796b4a2eae0b9b", Some (codes "d65/11c/SHA1-s35--47c57bd0cfe45117c4e2063869796b4a2eae0b9b.log"))
    ∷ (codes "WORM-s14-m1600000001--f1.mp3", Some (codes "e4d/ab8/WORM-s14-m1600000001--f1.mp3.log"))
    ∷ (codes "WORM-s3--abc", Some (codes "975/c65/WORM-s3--abc.log"))
    ∷ (codes "WORM-s9--a", Some (codes "de8/f84/WORM-s9--a.log"))
    ∷ (codes "WORM-s9-S3-C2--a", Some (codes "de8/f84/WORM-s9-S3-C2--a.log"))
    ∷ []

location_logs : Answers (of_key location_path) location_log_cases
unfolding opened
location_logs = refl

-- ---- whether a content is a key's

-- the verdict on a key's content
abbrev verdict : List ℕ × List ℕ → Option Verdict
verdict c = of_key (λ key. verdict_of key (sum_of key c.1)) c.0

-- each content is its key's
abbrev AreRight : List (List ℕ × List ℕ) → Type 0
AreRight cases = map verdict cases ≡ map (λ c. Some Right) cases

-- the test values of RFC 1321
abbrev rfc_1321_cases : List (List ℕ × List ℕ)
rfc_1321_cases =
    (codes "MD5--d41d8cd98f00b204e9800998ecf8427e", [])
    ∷ (codes "MD5--0cc175b9c0f1b6a831c399e269772661", codes "a")
    ∷ (codes "MD5--900150983cd24fb0d6963f7d28e17f72", codes "abc")
    ∷ (codes "MD5--f96b697d7cb7938d525a2f31aaf161d0", codes "message digest")
    ∷ (codes "MD5--c3fcd3d76192e4007dfb496cca67e13b", codes "abcdefghijklmnopqrstuvwxyz")
    ∷ (codes "MD5--d174ab98d277d9f5a5611c2c9f419d9f", codes "ABCDEFGHIJKLMNOPQRSTUVWXYZabcdefghijklmnopqrstuvwxyz0123456789")
    ∷ (codes "MD5--57edf4a22be3c955ac49da2e2107b67a", codes "12345678901234567890123456789012345678901234567890123456789012345678901234567890")
    ∷ []

rfc_1321 : AreRight rfc_1321_cases
unfolding opened
rfc_1321 = refl

-- the example values of FIPS 180-4: nothing, 24 bits, 448 bits, 896 bits
abbrev fips_180_4_cases : List (List ℕ × List ℕ)
fips_180_4_cases =
    (codes "SHA224--d14a028c2a3a2bc9476102bb288234c415a2b01f828ea62ac5b3e42f", [])
    ∷ (codes "SHA224--23097d223405d8228642a477bda255b32aadbce4bda0b3f7e36c9da7", codes "abc")
    ∷ (codes "SHA224--75388b16512776cc5dba5da1fd890150b0c6455cb4f58b1952522525", codes "abcdbcdecdefdefgefghfghighijhijkijkljklmklmnlmnomnopnopq")
    ∷ (codes "SHA256--e3b0c44298fc1c149afbf4c8996fb92427ae41e4649b934ca495991b7852b855", [])
    ∷ (codes "SHA256--ba7816bf8f01cfea414140de5dae2223b00361a396177a9cb410ff61f20015ad", codes "abc")
    ∷ (codes "SHA256--248d6a61d20638b8e5c026930c3e6039a33ce45964ff2167f6ecedd419db06c1", codes "abcdbcdecdefdefgefghfghighijhijkijkljklmklmnlmnomnopnopq")
    ∷ (codes "SHA384--38b060a751ac96384cd9327eb1b1e36a21fdb71114be07434c0cc7bf63f6e1da274edebfe76f65fbd51ad2f14898b95b", [])
    ∷ (codes "SHA384--cb00753f45a35e8bb5a03d699ac65007272c32ab0eded1631a8b605a43ff5bed8086072ba1e7cc2358baeca134c825a7", codes "abc")
    ∷ (codes "SHA384--09330c33f71147e83d192fc782cd1b4753111b173b3b05d22fa08086e3b0f712fcc7c71a557e2db966c3e9fa91746039", codes "abcdefghbcdefghicdefghijdefghijkefghijklfghijklmghijklmnhijklmnoijklmnopjklmnopqklmnopqrlmnopqrsmnopqrstnopqrstu")
    ∷ (codes "SHA512--cf83e1357eefb8bdf1542850d66d8007d620e4050b5715dc83f4a921d36ce9ce47d0d13c5d85f2b0ff8318d2877eec2f63b931bd47417a81a538327af927da3e", [])
    ∷ (codes "SHA512--ddaf35a193617abacc417349ae20413112e6fa4e89a97ea20a9eeee64b55d39a2192992a274fc1a836ba3c23a3feebbd454d4423643ce80e2a9ac94fa54ca49f", codes "abc")
    ∷ (codes "SHA512--8e959b75dae313da8cf4f72814fc143f8f7779c6eb9f7fa17299aeadb6889018501d289e4900f7e4331b99dec4b5433ac7d329eeb6dd26545e96e55b874be909", codes "abcdefghbcdefghicdefghijdefghijkefghijklfghijklmghijklmnhijklmnoijklmnopjklmnopqklmnopqrlmnopqrsmnopqrstnopqrstu")
    ∷ []

fips_180_4 : AreRight fips_180_4_cases
unfolding opened
fips_180_4 = refl

-- where the padding needs one more block, by digests of coreutils
abbrev md5_padding_cases : List (List ℕ × List ℕ)
md5_padding_cases =
    (codes "MD5-s55--ef1772b6dff9a122358552954ad0df65", replicate 55 97)
    ∷ (codes "MD5-s56--3b0c8ac703f828b04c6c197006d17218", replicate 56 97)
    ∷ (codes "MD5-s63--b06521f39153d618550606be297466d5", replicate 63 97)
    ∷ (codes "MD5-s64--014842d480b571495a4a0363793f7367", replicate 64 97)
    ∷ (codes "MD5-s65--c743a45e0d2e6a95cb859adae0248435", replicate 65 97)
    ∷ (codes "MD5-s119--8a7bd0732ed6a28ce75f6dabc90e1613", replicate 119 97)
    ∷ (codes "MD5-s120--5f61c0ccad4cac44c75ff505e1f1e537", replicate 120 97)
    ∷ (codes "MD5-s127--020406e1d05cdc2aa287641f7ae2cc39", replicate 127 97)
    ∷ (codes "MD5-s128--e510683b3f5ffe4093d021808bc6ff70", replicate 128 97)
    ∷ (codes "MD5-s129--b325dc1c6f5e7a2b7cf465b9feab7948", replicate 129 97)
    ∷ []

md5_padding : AreRight md5_padding_cases
unfolding opened
md5_padding = refl

abbrev sha224_padding_cases : List (List ℕ × List ℕ)
sha224_padding_cases =
    (codes "SHA224-s55--fb0bd626a70c28541dfa781bb5cc4d7d7f56622a58f01a0b1ddd646f", replicate 55 97)
    ∷ (codes "SHA224-s56--d40854fc9caf172067136f2e29e1380b14626bf6f0dd06779f820dcd", replicate 56 97)
    ∷ (codes "SHA224-s63--1d4e051f4d6fed2a63fd2421e65834cec00d64456553de3496ae8b1d", replicate 63 97)
    ∷ (codes "SHA224-s64--a88cd5cde6d6fe9136a4e58b49167461ea95d388ca2bdb7afdc3cbf4", replicate 64 97)
    ∷ (codes "SHA224-s65--ff8716f600af42959d0efb52e1f21b01bb328733009344d511c299fb", replicate 65 97)
    ∷ (codes "SHA224-s119--e000e6709d26667b631faa7fc1bd404eb4774003c5fb4f51a0184875", replicate 119 97)
    ∷ (codes "SHA224-s120--66924e30a9929327e7a6cf03747397226ed2efc180ebe3dea7132a79", replicate 120 97)
    ∷ []

sha224_padding : AreRight sha224_padding_cases
unfolding opened
sha224_padding = refl

abbrev sha256_padding_cases : List (List ℕ × List ℕ)
sha256_padding_cases =
    (codes "SHA256-s55--9f4390f8d30c2dd92ec9f095b65e2b9ae9b0a925a5258e241c9f1e910f734318", replicate 55 97)
    ∷ (codes "SHA256-s56--b35439a4ac6f0948b6d6f9e3c6af0f5f590ce20f1bde7090ef7970686ec6738a", replicate 56 97)
    ∷ (codes "SHA256-s63--7d3e74a05d7db15bce4ad9ec0658ea98e3f06eeecf16b4c6fff2da457ddc2f34", replicate 63 97)
    ∷ (codes "SHA256-s64--ffe054fe7ae0cb6dc65c3af9b61d5209f439851db43d0ba5997337df154668eb", replicate 64 97)
    ∷ (codes "SHA256-s65--635361c48bb9eab14198e76ea8ab7f1a41685d6ad62aa9146d301d4f17eb0ae0", replicate 65 97)
    ∷ (codes "SHA256-s119--31eba51c313a5c08226adf18d4a359cfdfd8d2e816b13f4af952f7ea6584dcfb", replicate 119 97)
    ∷ (codes "SHA256-s120--2f3d335432c70b580af0e8e1b3674a7c020d683aa5f73aaaedfdc55af904c21c", replicate 120 97)
    ∷ (codes "SHA256-s127--c57e9278af78fa3cab38667bef4ce29d783787a2f731d4e12200270f0c32320a", replicate 127 97)
    ∷ (codes "SHA256-s128--6836cf13bac400e9105071cd6af47084dfacad4e5e302c94bfed24e013afb73e", replicate 128 97)
    ∷ (codes "SHA256-s129--c12cb024a2e5551cca0e08fce8f1c5e314555cc3fef6329ee994a3db752166ae", replicate 129 97)
    ∷ []

sha256_padding : AreRight sha256_padding_cases
unfolding opened
sha256_padding = refl

abbrev sha384_padding_cases : List (List ℕ × List ℕ)
sha384_padding_cases =
    (codes "SHA384-s111--3c37955051cb5c3026f94d551d5b5e2ac38d572ae4e07172085fed81f8466b8f90dc23a8ffcdea0b8d8e58e8fdacc80a", replicate 111 97)
    ∷ (codes "SHA384-s112--187d4e07cb306103c69967bf544d0dfbe9042577599c73c330abc0cb64c61236d5ed565ee19119d8c31779a38f791fcd", replicate 112 97)
    ∷ (codes "SHA384-s127--9bd06b1763c2cf7aef40e795dc65bc96d59c41b537f3ad72ebdefd485476b5717c1aeb37c327fe9c1831b12b9efd08ae", replicate 127 97)
    ∷ (codes "SHA384-s128--edb12730a366098b3b2beac75a3bef1b0969b15c48e2163c23d96994f8d1bef760c7e27f3c464d3829f56c0d53808b0b", replicate 128 97)
    ∷ (codes "SHA384-s129--39b6f5a7b0e781dbc419f72e49b30eaac10f2c98c4403bc610da31067fd1b48f324138c8615d2b496d08d73d5e865326", replicate 129 97)
    ∷ (codes "SHA384-s239--e247c35f4bc1aa38026f8880c8c97305545d00d3f859e00c57d1c1f0a176b3c6b749c4eb081f08bd0fba500969cd056a", replicate 239 97)
    ∷ (codes "SHA384-s240--4d86957beab348a29180f02d02564ac1d32f5b4c217ece2b038f7c184f0cafc8c8e438eb82aa03796170e0a7ce8c0675", replicate 240 97)
    ∷ []

sha384_padding : AreRight sha384_padding_cases
unfolding opened
sha384_padding = refl

abbrev sha512_padding_cases : List (List ℕ × List ℕ)
sha512_padding_cases =
    (codes "SHA512-s111--fa9121c7b32b9e01733d034cfc78cbf67f926c7ed83e82200ef86818196921760b4beff48404df811b953828274461673c68d04e297b0eb7b2b4d60fc6b566a2", replicate 111 97)
    ∷ (codes "SHA512-s112--c01d080efd492776a1c43bd23dd99d0a2e626d481e16782e75d54c2503b5dc32bd05f0f1ba33e568b88fd2d970929b719ecbb152f58f130a407c8830604b70ca", replicate 112 97)
    ∷ (codes "SHA512-s127--828613968b501dc00a97e08c73b118aa8876c26b8aac93df128502ab360f91bab50a51e088769a5c1eff4782ace147dce3642554199876374291f5d921629502", replicate 127 97)
    ∷ (codes "SHA512-s128--b73d1929aa615934e61a871596b3f3b33359f42b8175602e89f7e06e5f658a243667807ed300314b95cacdd579f3e33abdfbe351909519a846d465c59582f321", replicate 128 97)
    ∷ (codes "SHA512-s129--4f681e0bd53cda4b5a2041cc8a06f2eabde44fb16c951fbd5b87702f07aeab611565b19c47fde30587177ebb852e3971bbd8d3fd30da18d71037dfbd98420429", replicate 129 97)
    ∷ (codes "SHA512-s239--52c853cb8d907f3d4d6b889beb027985d7c273486d75f8baf26f80d24e90c74c6c3de3e22131582380a7d14d43f2941a31385439cd6ddc469f628015e50bf286", replicate 239 97)
    ∷ (codes "SHA512-s240--4c296d90c61052a62ffb1dd196f1b7b09373b1f93e71836baebf89690546b7595684dbe9467a8e484fa0d1094272b4344a7c24f5fee8daedeb0bf549c985ab5f", replicate 240 97)
    ∷ []

sha512_padding : AreRight sha512_padding_cases
unfolding opened
sha512_padding = refl

-- keys, each with a content that is its own; where the backend is no digest, only the size counts
abbrev own_content_cases : List (List ℕ × List ℕ)
own_content_cases =
    (codes "MD5E--900150983cd24fb0d6963f7d28e17f72", codes "abc")
    ∷ (codes "MD5E-s3--900150983cd24fb0d6963f7d28e17f72.txt", codes "abc")
    ∷ (codes "SHA224E--23097d223405d8228642a477bda255b32aadbce4bda0b3f7e36c9da7", codes "abc")
    ∷ (codes "SHA224E-s3--23097d223405d8228642a477bda255b32aadbce4bda0b3f7e36c9da7.txt", codes "abc")
    ∷ (codes "SHA256E--ba7816bf8f01cfea414140de5dae2223b00361a396177a9cb410ff61f20015ad", codes "abc")
    ∷ (codes "SHA256E-s3--ba7816bf8f01cfea414140de5dae2223b00361a396177a9cb410ff61f20015ad.txt", codes "abc")
    ∷ (codes "SHA384E--cb00753f45a35e8bb5a03d699ac65007272c32ab0eded1631a8b605a43ff5bed8086072ba1e7cc2358baeca134c825a7", codes "abc")
    ∷ (codes "SHA384E-s3--cb00753f45a35e8bb5a03d699ac65007272c32ab0eded1631a8b605a43ff5bed8086072ba1e7cc2358baeca134c825a7.txt", codes "abc")
    ∷ (codes "SHA512E--ddaf35a193617abacc417349ae20413112e6fa4e89a97ea20a9eeee64b55d39a2192992a274fc1a836ba3c23a3feebbd454d4423643ce80e2a9ac94fa54ca49f", codes "abc")
    ∷ (codes "SHA512E-s3--ddaf35a193617abacc417349ae20413112e6fa4e89a97ea20a9eeee64b55d39a2192992a274fc1a836ba3c23a3feebbd454d4423643ce80e2a9ac94fa54ca49f.txt", codes "abc")
    ∷ (codes "SHA256E-s3-m5--ba7816bf8f01cfea414140de5dae2223b00361a396177a9cb410ff61f20015ad.tar.gz", codes "abc")
    ∷ (codes "SHA256E-s3--ba7816bf8f01cfea414140de5dae2223b00361a396177a9cb410ff61f20015ad.", codes "abc")
    ∷ (codes "SHA256E-s1-S16-C1--5feceb66ffc86f38d952786c6d696c79c2dbc239dd4e91b46729d73a27fb57e9.bin", codes "0")
    ∷ (codes "WORM--x", codes "abc")
    ∷ (codes "WORM-s3--x", codes "abc")
    ∷ (codes "SHA1-s3--x", codes "abc")
    ∷ (codes "SHA256X-s3--x", codes "abc")
    ∷ (codes "URL--http&c%%a.b", codes "abc")
    ∷ (codes "MD5EE-s3--x", codes "abc")
    ∷ (codes "SHA3_256-s3--x", codes "abc")
    ∷ []

own_contents : AreRight own_content_cases
unfolding opened
own_contents = refl

-- the size comes before the digest
abbrev wrong_size_cases : List ((List ℕ × List ℕ) × Option Verdict)
wrong_size_cases =
    ((codes "WORM-s4--x", codes "abc"), Some (WrongSize 4 3))
    ∷ ((codes "WORM-s0--x", codes "a"), Some (WrongSize 0 1))
    ∷ ((codes "SHA256-s2--ba7816bf8f01cfea414140de5dae2223b00361a396177a9cb410ff61f20015ad", codes "abc"), Some (WrongSize 2 3))
    ∷ ((codes "SHA256-s2--x", codes "abc"), Some (WrongSize 2 3))
    ∷ ((codes "MD5E-s18446744073709551615--d41d8cd98f00b204e9800998ecf8427e.a", []), Some (WrongSize 18446744073709551615 0))
    ∷ ((codes "SHA512E-s1--a.b", []), Some (WrongSize 1 0))
    ∷ []

wrong_sizes : Answers verdict wrong_size_cases
unfolding opened
wrong_sizes = refl

-- digests that differ, also in their length or case
abbrev wrong_digest_cases : List ((List ℕ × List ℕ) × Option Verdict)
wrong_digest_cases =
    ((codes "MD5-s3--900150983cd24fb0d6963f7d28e17f72", codes "abd"), Some (WrongDigest (codes "900150983cd24fb0d6963f7d28e17f72") (codes "4911e516e5aa21d327512e0c8b197616")))
    ∷ ((codes "SHA224-s3--23097d223405d8228642a477bda255b32aadbce4bda0b3f7e36c9da7", codes "abd"), Some (WrongDigest (codes "23097d223405d8228642a477bda255b32aadbce4bda0b3f7e36c9da7") (codes "9a7b7e67edba75ffa6c9f139c319ca3b5e9cf99cb36979d3c33bf2c8")))
    ∷ ((codes "SHA256-s3--ba7816bf8f01cfea414140de5dae2223b00361a396177a9cb410ff61f20015ad", codes "abd"), Some (WrongDigest (codes "ba7816bf8f01cfea414140de5dae2223b00361a396177a9cb410ff61f20015ad") (codes "a52d159f262b2c6ddb724a61840befc36eb30c88877a4030b65cbe86298449c9")))
    ∷ ((codes "SHA384-s3--cb00753f45a35e8bb5a03d699ac65007272c32ab0eded1631a8b605a43ff5bed8086072ba1e7cc2358baeca134c825a7", codes "abd"), Some (WrongDigest (codes "cb00753f45a35e8bb5a03d699ac65007272c32ab0eded1631a8b605a43ff5bed8086072ba1e7cc2358baeca134c825a7") (codes "5d15bcebb965fa77926c23471c96e3a326b363f5f105c3ef17cfd033b9734fa46556f81a26bb3044d2dda50481325ef7")))
    ∷ ((codes "SHA512-s3--ddaf35a193617abacc417349ae20413112e6fa4e89a97ea20a9eeee64b55d39a2192992a274fc1a836ba3c23a3feebbd454d4423643ce80e2a9ac94fa54ca49f", codes "abd"), Some (WrongDigest (codes "ddaf35a193617abacc417349ae20413112e6fa4e89a97ea20a9eeee64b55d39a2192992a274fc1a836ba3c23a3feebbd454d4423643ce80e2a9ac94fa54ca49f") (codes "1a9840c27a5cf22dab060cdd8a83da2b0fbcb1aeb52d4f9d3894b639083e205a5ab3f6afaeeb21b8e99b5e0fe93daafaabeef274da5d6eadcc9db36e5b6f64c4")))
    ∷ ((codes "SHA256-s3--ba7816bf8f01cfea414140de5dae2223b00361a396177a9cb410ff61f20015ad.txt", codes "abc"), Some (WrongDigest (codes "ba7816bf8f01cfea414140de5dae2223b00361a396177a9cb410ff61f20015ad.txt") (codes "ba7816bf8f01cfea414140de5dae2223b00361a396177a9cb410ff61f20015ad")))
    ∷ ((codes "SHA256--BA7816BF8F01CFEA414140DE5DAE2223B00361A396177A9CB410FF61F20015AD", codes "abc"), Some (WrongDigest (codes "BA7816BF8F01CFEA414140DE5DAE2223B00361A396177A9CB410FF61F20015AD") (codes "ba7816bf8f01cfea414140de5dae2223b00361a396177a9cb410ff61f20015ad")))
    ∷ ((codes "SHA256E-s3--ba7816bf8f01cfea414140de5dae2223b00361a396177a9cb410ff61f20015a.txt", codes "abc"), Some (WrongDigest (codes "ba7816bf8f01cfea414140de5dae2223b00361a396177a9cb410ff61f20015a") (codes "ba7816bf8f01cfea414140de5dae2223b00361a396177a9cb410ff61f20015ad")))
    ∷ ((codes "SHA256E--.ba7816bf8f01cfea414140de5dae2223b00361a396177a9cb410ff61f20015ad", codes "abc"), Some (WrongDigest [] (codes "ba7816bf8f01cfea414140de5dae2223b00361a396177a9cb410ff61f20015ad")))
    ∷ ((codes "SHA224-s3--ba7816bf8f01cfea414140de5dae2223b00361a396177a9cb410ff61f20015ad", codes "abc"), Some (WrongDigest (codes "ba7816bf8f01cfea414140de5dae2223b00361a396177a9cb410ff61f20015ad") (codes "23097d223405d8228642a477bda255b32aadbce4bda0b3f7e36c9da7")))
    ∷ ((codes "SHA512-s3--ba7816bf8f01cfea414140de5dae2223b00361a396177a9cb410ff61f20015ad", codes "abc"), Some (WrongDigest (codes "ba7816bf8f01cfea414140de5dae2223b00361a396177a9cb410ff61f20015ad") (codes "ddaf35a193617abacc417349ae20413112e6fa4e89a97ea20a9eeee64b55d39a2192992a274fc1a836ba3c23a3feebbd454d4423643ce80e2a9ac94fa54ca49f")))
    ∷ ((codes "MD5E-s3--a-s3--b.c", codes "abc"), Some (WrongDigest (codes "a-s3--b") (codes "900150983cd24fb0d6963f7d28e17f72")))
    ∷ []

wrong_digests : Answers verdict wrong_digest_cases
unfolding opened
wrong_digests = refl

-- ---- the key that is made of a content

abbrev made : List ℕ × List ℕ → List ℕ
made c = key_text (made_key c.0 c.1)

-- keys that git-annex made of the same paths and contents
abbrev made_key_cases : List ((List ℕ × List ℕ) × List ℕ)
made_key_cases =
    ((codes "a", codes "0"), codes "SHA256E-s1--5feceb66ffc86f38d952786c6d696c79c2dbc239dd4e91b46729d73a27fb57e9")
    ∷ ((codes "a.jpegs", codes "6"), codes "SHA256E-s1--e7f6c011776e8db7cd330b54174fd76f7d0216b612387a5ffcfb81e6f0919683")
    ∷ ((codes ".a.txt", codes "10"), codes "SHA256E-s2--4a44dc15364204a80fe80e9039455cc1608281820fe2b24f1e5233ade6af1dd5.txt")
    ∷ ((codes "a.t-t", codes "14"), codes "SHA256E-s2--8527a891e224136950ff32ca212b45bc93f69fbb801c3b1ebedac52775f99e61")
    ∷ ((codes "a.txt ", codes "18"), codes "SHA256E-s2--4ec9599fc203d176a301536c2e091a19bc852759b255bd6818810a42c5fed14a")
    ∷ ((codes "x.zzzzz.y", codes "30"), codes "SHA256E-s2--624b60c58c9d8bfb6ff1886c2fd605d2adeb6ea4da576068201b6c6958ce93f4.y")
    ∷ ((codes "d/e.f", codes "34"), codes "SHA256E-s2--86e50149658661312a9e0b35558d84f6c6d3da797f552a9657fe0558ca40cdef.f")
    ∷ ((codes "a.:", codes "39"), codes "SHA256E-s2--0b918943df0962bc7a1824c0555a389347b4febdc7cf9d1254406d80ce44e3f9")
    ∷ ((codes "a.x~", codes "43"), codes "SHA256E-s2--44cb730c420480a0477b505ae68af508fb90f96cf0ec54c6ad16949dd427f13a")
    ∷ ((codes ".x.y", codes "49"), codes "SHA256E-s2--0e17daca5f3e175f448bacace3bc0da47d0655a74c8dd0dc497a3afbdad95f1f.y")
    ∷ ((codes "a.shtml", codes "57"), codes "SHA256E-s2--c837649cce43f2729138e72cc315207057ac82599a59be72765a477f22d14a54")
    ∷ ((codes "x.PDF", codes "62"), codes "SHA256E-s2--81b8a03f97e8787c53fe1a86bda042b6f0de9b0ec9c09357e107c99ba4d6948a.PDF")
    ∷ []

made_keys : Answers made made_key_cases
unfolding opened
made_keys = refl

-- which extensions are kept
abbrev kept_extension_cases : List ((List ℕ × List ℕ) × List ℕ)
kept_extension_cases =
    ((codes "a.jpeg", []), codes "SHA256E-s0--e3b0c44298fc1c149afbf4c8996fb92427ae41e4649b934ca495991b7852b855.jpeg")
    ∷ ((codes "a.tar.gz", []), codes "SHA256E-s0--e3b0c44298fc1c149afbf4c8996fb92427ae41e4649b934ca495991b7852b855.gz")
    ∷ ((codes "d.e/a.1", []), codes "SHA256E-s0--e3b0c44298fc1c149afbf4c8996fb92427ae41e4649b934ca495991b7852b855.1")
    ∷ ((codes "a..b", []), codes "SHA256E-s0--e3b0c44298fc1c149afbf4c8996fb92427ae41e4649b934ca495991b7852b855.b")
    ∷ ((codes "..b", []), codes "SHA256E-s0--e3b0c44298fc1c149afbf4c8996fb92427ae41e4649b934ca495991b7852b855.b")
    ∷ ((codes "d/.x.Z9z0", []), codes "SHA256E-s0--e3b0c44298fc1c149afbf4c8996fb92427ae41e4649b934ca495991b7852b855.Z9z0")
    ∷ (([], []), codes "SHA256E-s0--e3b0c44298fc1c149afbf4c8996fb92427ae41e4649b934ca495991b7852b855")
    ∷ ((codes ".", []), codes "SHA256E-s0--e3b0c44298fc1c149afbf4c8996fb92427ae41e4649b934ca495991b7852b855")
    ∷ ((codes "a.", []), codes "SHA256E-s0--e3b0c44298fc1c149afbf4c8996fb92427ae41e4649b934ca495991b7852b855")
    ∷ ((codes ".txt", []), codes "SHA256E-s0--e3b0c44298fc1c149afbf4c8996fb92427ae41e4649b934ca495991b7852b855")
    ∷ ((codes "d/.txt", []), codes "SHA256E-s0--e3b0c44298fc1c149afbf4c8996fb92427ae41e4649b934ca495991b7852b855")
    ∷ ((codes "d.txt/a", []), codes "SHA256E-s0--e3b0c44298fc1c149afbf4c8996fb92427ae41e4649b934ca495991b7852b855")
    ∷ ((codes "d.txt/", []), codes "SHA256E-s0--e3b0c44298fc1c149afbf4c8996fb92427ae41e4649b934ca495991b7852b855")
    ∷ ((codes "a.abcde", []), codes "SHA256E-s0--e3b0c44298fc1c149afbf4c8996fb92427ae41e4649b934ca495991b7852b855")
    ∷ ((codes "a.b_c", []), codes "SHA256E-s0--e3b0c44298fc1c149afbf4c8996fb92427ae41e4649b934ca495991b7852b855")
    ∷ ((codes "a." ++ 195 ∷ 169 ∷ [], []), codes "SHA256E-s0--e3b0c44298fc1c149afbf4c8996fb92427ae41e4649b934ca495991b7852b855")
    ∷ ((codes "a.b/.c", []), codes "SHA256E-s0--e3b0c44298fc1c149afbf4c8996fb92427ae41e4649b934ca495991b7852b855")
    ∷ []

kept_extensions : Answers made kept_extension_cases
unfolding opened
kept_extensions = refl
