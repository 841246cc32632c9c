-- Scripts of storms, as an executable model wrote them.
use Rattle.std.specs.Prelude.{◌≡◌, refl, List, ℕ, [], ◌∷◌, codes, flat_map}
use Rattle.std.specs.Fmt.{digits}
use Rattle.storm_script.specs.Storm.{storm_text}

abbrev lines0 : List (List ℕ)
lines0 = codes "repo s0 00000000-0000-4000-8000-000000000000\n" ∷ codes "repo s1 00000000-0000-4000-8000-000000000001\n" ∷ codes "repo s2 00000000-0000-4000-8000-000000000002\n" ∷ codes "repo s3 00000000-0000-4000-8000-000000000003\n" ∷ codes "repo s4 00000000-0000-4000-8000-000000000004\n" ∷ codes "repo s5 00000000-0000-4000-8000-000000000005\n" ∷ codes "repo s6 00000000-0000-4000-8000-000000000006 nolock\n" ∷ codes "repo s7 00000000-0000-4000-8000-000000000007 nolock\n" ∷ codes "have s6 WORM-s3--k0 text:abc\n" ∷ codes "have s7 WORM-s3--k0 text:abc\n" ∷ codes "have s1 WORM-s3--k0 text:abc\n" ∷ codes "have s1 WORM-s3--k1 text:abc\n" ∷ codes "have s1 WORM-s3--k1 text:abc\n" ∷ codes "have s3 WORM-s3--k1 text:abc\n" ∷ codes "have s0 WORM-s3--k2 text:abc\n" ∷ codes "have s4 WORM-s3--k2 text:abc\n" ∷ codes "have s3 WORM-s3--k2 text:abc\n" ∷ codes "have s6 WORM-s3--k3 text:abc\n" ∷ codes "have s3 WORM-s3--k3 text:abc\n" ∷ codes "have s3 WORM-s3--k3 text:abc\n" ∷ codes "have s0 WORM-s3--k4 text:abc\n" ∷ codes "have s0 WORM-s3--k4 text:abc\n" ∷ codes "have s5 WORM-s3--k4 text:abc\n" ∷ codes "have s2 WORM-s3--k5 text:abc\n" ∷ codes "have s5 WORM-s3--k5 text:abc\n" ∷ codes "have s3 WORM-s3--k5 text:abc\n" ∷ codes "have s4 WORM-s3--k6 text:abc\n" ∷ codes "have s7 WORM-s3--k6 text:abc\n" ∷ codes "have s0 WORM-s3--k6 text:abc\n" ∷ codes "have s1 WORM-s3--k7 text:abc\n" ∷ codes "have s6 WORM-s3--k7 text:abc\n" ∷ codes "have s2 WORM-s3--k7 text:abc\n" ∷ codes "have s5 WORM-s3--k8 text:abc\n" ∷ codes "have s0 WORM-s3--k8 text:abc\n" ∷ codes "have s0 WORM-s3--k8 text:abc\n" ∷ codes "have s1 WORM-s3--k9 text:abc\n" ∷ codes "have s5 WORM-s3--k9 text:abc\n" ∷ codes "have s0 WORM-s3--k9 text:abc\n" ∷ codes "have s0 WORM-s3--k10 text:abc\n" ∷ codes "have s5 WORM-s3--k10 text:abc\n" ∷ codes "have s6 WORM-s3--k10 text:abc\n" ∷ codes "have s3 WORM-s3--k11 text:abc\n" ∷ codes "have s5 WORM-s3--k11 text:abc\n" ∷ codes "have s3 WORM-s3--k11 text:abc\n" ∷ codes "have s1 WORM-s3--k12 text:abc\n" ∷ codes "have s3 WORM-s3--k12 text:abc\n" ∷ codes "have s4 WORM-s3--k12 text:abc\n" ∷ codes "have s0 WORM-s3--k13 text:abc\n" ∷ codes "have s5 WORM-s3--k13 text:abc\n" ∷ codes "have s7 WORM-s3--k13 text:abc\n" ∷ codes "have s0 WORM-s3--k14 text:abc\n" ∷ codes "have s2 WORM-s3--k14 text:abc\n" ∷ codes "have s4 WORM-s3--k14 text:abc\n" ∷ codes "have s0 WORM-s3--k15 text:abc\n" ∷ codes "have s0 WORM-s3--k15 text:abc\n" ∷ codes "have s0 WORM-s3--k15 text:abc\n" ∷ codes "numcopies s0 2\n" ∷ codes "merge s1 s0\n" ∷ codes "merge s2 s0\n" ∷ codes "merge s3 s0\n" ∷ codes "merge s4 s0\n" ∷ codes "merge s5 s0\n" ∷ codes "merge s6 s0\n" ∷ codes "merge s7 s0\n" ∷ codes "begin copy s2 WORM-s3--k10 to s4\n" ∷ codes "turn s2 14\n" ∷ codes "turn s4 14\n" ∷ codes "begin drop s4 WORM-s3--k10\n" ∷ codes "turn s4 1\n" ∷ codes "turn s2 1\n" ∷ codes "begin get s2 WORM-s3--k11\n" ∷ codes "turn s2 4\n" ∷ codes "turn s0 4\n" ∷ codes "begin drop s4 WORM-s3--k11 from s2\n" ∷ codes "turn s4 4\n" ∷ codes "turn s2 4\n" ∷ codes "begin copy s0 WORM-s3--k2 to s7\n" ∷ codes "turn s0 7\n" ∷ codes "turn s7 7\n" ∷ codes "begin copy s3 WORM-s3--k8 to s5\n" ∷ codes "turn s3 6\n" ∷ codes "turn s5 6\n" ∷ codes "crash s2\n" ∷ codes "turn s2 1\n" ∷ codes "turn s7 1\n" ∷ codes "begin drop s0 WORM-s3--k1\n" ∷ codes "turn s0 4\n" ∷ codes "turn s5 4\n" ∷ codes "settle\n" ∷ codes "begin drop s7 WORM-s3--k3\n" ∷ codes "turn s7 14\n" ∷ codes "turn s5 14\n" ∷ codes "settle\n" ∷ []

pub storm0 : storm_text 7 9 ≡ flat_map (λ line. line) lines0
unfolding digits
storm0 = refl

abbrev lines1 : List (List ℕ)
lines1 = codes "repo s0 00000000-0000-4000-8000-000000000000\n" ∷ codes "repo s1 00000000-0000-4000-8000-000000000001\n" ∷ codes "repo s2 00000000-0000-4000-8000-000000000002\n" ∷ codes "repo s3 00000000-0000-4000-8000-000000000003\n" ∷ codes "repo s4 00000000-0000-4000-8000-000000000004\n" ∷ codes "repo s5 00000000-0000-4000-8000-000000000005\n" ∷ codes "repo s6 00000000-0000-4000-8000-000000000006 nolock\n" ∷ codes "repo s7 00000000-0000-4000-8000-000000000007 nolock\n" ∷ codes "have s0 WORM-s3--k0 text:abc\n" ∷ codes "have s7 WORM-s3--k0 text:abc\n" ∷ codes "have s5 WORM-s3--k0 text:abc\n" ∷ codes "have s2 WORM-s3--k1 text:abc\n" ∷ codes "have s0 WORM-s3--k1 text:abc\n" ∷ codes "have s3 WORM-s3--k1 text:abc\n" ∷ codes "have s5 WORM-s3--k2 text:abc\n" ∷ codes "have s7 WORM-s3--k2 text:abc\n" ∷ codes "have s0 WORM-s3--k2 text:abc\n" ∷ codes "have s4 WORM-s3--k3 text:abc\n" ∷ codes "have s3 WORM-s3--k3 text:abc\n" ∷ codes "have s2 WORM-s3--k3 text:abc\n" ∷ codes "have s0 WORM-s3--k4 text:abc\n" ∷ codes "have s2 WORM-s3--k4 text:abc\n" ∷ codes "have s6 WORM-s3--k4 text:abc\n" ∷ codes "have s0 WORM-s3--k5 text:abc\n" ∷ codes "have s1 WORM-s3--k5 text:abc\n" ∷ codes "have s4 WORM-s3--k5 text:abc\n" ∷ codes "have s2 WORM-s3--k6 text:abc\n" ∷ codes "have s2 WORM-s3--k6 text:abc\n" ∷ codes "have s1 WORM-s3--k6 text:abc\n" ∷ codes "have s4 WORM-s3--k7 text:abc\n" ∷ codes "have s1 WORM-s3--k7 text:abc\n" ∷ codes "have s3 WORM-s3--k7 text:abc\n" ∷ codes "have s5 WORM-s3--k8 text:abc\n" ∷ codes "have s5 WORM-s3--k8 text:abc\n" ∷ codes "have s5 WORM-s3--k8 text:abc\n" ∷ codes "have s5 WORM-s3--k9 text:abc\n" ∷ codes "have s6 WORM-s3--k9 text:abc\n" ∷ codes "have s3 WORM-s3--k9 text:abc\n" ∷ codes "have s2 WORM-s3--k10 text:abc\n" ∷ codes "have s6 WORM-s3--k10 text:abc\n" ∷ codes "have s0 WORM-s3--k10 text:abc\n" ∷ codes "have s3 WORM-s3--k11 text:abc\n" ∷ codes "have s4 WORM-s3--k11 text:abc\n" ∷ codes "have s5 WORM-s3--k11 text:abc\n" ∷ codes "have s2 WORM-s3--k12 text:abc\n" ∷ codes "have s4 WORM-s3--k12 text:abc\n" ∷ codes "have s4 WORM-s3--k12 text:abc\n" ∷ codes "have s7 WORM-s3--k13 text:abc\n" ∷ codes "have s0 WORM-s3--k13 text:abc\n" ∷ codes "have s3 WORM-s3--k13 text:abc\n" ∷ codes "have s0 WORM-s3--k14 text:abc\n" ∷ codes "have s2 WORM-s3--k14 text:abc\n" ∷ codes "have s5 WORM-s3--k14 text:abc\n" ∷ codes "have s3 WORM-s3--k15 text:abc\n" ∷ codes "have s2 WORM-s3--k15 text:abc\n" ∷ codes "have s1 WORM-s3--k15 text:abc\n" ∷ codes "numcopies s0 2\n" ∷ codes "merge s1 s0\n" ∷ codes "merge s2 s0\n" ∷ codes "merge s3 s0\n" ∷ codes "merge s4 s0\n" ∷ codes "merge s5 s0\n" ∷ codes "merge s6 s0\n" ∷ codes "merge s7 s0\n" ∷ codes "begin copy s1 WORM-s3--k10 to s0\n" ∷ codes "turn s1 7\n" ∷ codes "turn s0 7\n" ∷ codes "begin copy s7 WORM-s3--k9 to s5\n" ∷ codes "turn s7 5\n" ∷ codes "turn s5 5\n" ∷ codes "settle\n" ∷ []

pub storm1 : storm_text 18446744073709551615 2 ≡ flat_map (λ line. line) lines1
unfolding digits
storm1 = refl
