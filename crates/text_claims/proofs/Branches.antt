-- Sets of lines, branches as they change and merge, and the log files at paths, worked out by hand (by computation).
use Rattle.std.specs.Prelude.{◌≡◌, refl, ℕ, Bool, true, false, List, [], ◌∷◌, ◌++◌, codes}
use Rattle.std.proofs.Common.{inl, inr}
use Rattle.log_lines.specs.declared.entry.LogKind.TheVariants as kinds
use Rattle.union_merge.specs.LineSet.{IsLine, difference, has_line, set_of, text_of, union}
use Rattle.union_merge.specs.Branch.{Files, file_at, lines_at, merged_branch, merged_file, with_back, with_file}
use Rattle.branch_bundle.specs.Bundle.{bundle_text}
use Rattle.run_data.specs.declared.entry.LogFile.{LogFile}
use Rattle.run_data.specs.declared.entry.LogFile.TheVariants.{Location, Of, Other}
use Rattle.run_data.specs.Files.{file_of}
use Rattle.text_claims.proofs.Cases.{Answers}
use Rattle.text_claims.proofs.Opened.{opened}

-- ---- the text of the set of a text's lines

abbrev set_text : List ℕ → List ℕ
set_text text = text_of (set_of text)

abbrev set_cases : List (List ℕ × List ℕ)
set_cases =
    ([], [])
    ∷ (codes "\n\n", [])
    ∷ (codes "a", codes "a\n")
    ∷ (codes "a\n", codes "a\n")
    ∷ (codes "b\na\nb\na\n", codes "a\nb\n")
    ∷ (codes "\nb\n\n\na", codes "a\nb\n")
    ∷ (codes "ab\na\nb\nB", codes "B\na\nab\nb\n")
    ∷ (255 ∷ 254 ∷ codes "\n" ++ 128 ∷ codes "\nz" ++ 13 ∷ codes "\n", codes "z" ++ 13 ∷ codes "\n" ++ 128 ∷ codes "\n" ++ 255 ∷ 254 ∷ codes "\n")
    ∷ (codes "1700000001s 1 B\n1700000001s 0 B\n1700000001s 1 B", codes "1700000001s 0 B\n1700000001s 1 B\n")
    ∷ []

sets : Answers set_text set_cases
unfolding opened
sets = refl

-- ---- the text of the lines of both texts

abbrev union_text : List ℕ × List ℕ → List ℕ
union_text c = text_of (union (set_of c.0) (set_of c.1))

abbrev union_cases : List ((List ℕ × List ℕ) × List ℕ)
union_cases =
    (([], []), [])
    ∷ ((codes "a\n", []), codes "a\n")
    ∷ (([], codes "a\n"), codes "a\n")
    ∷ ((codes "a\nc\n", codes "b\nd\n"), codes "a\nb\nc\nd\n")
    ∷ ((codes "a\nb\n", codes "b\nc\n"), codes "a\nb\nc\n")
    ∷ ((codes "x\ny\nz\n", codes "a\n"), codes "a\nx\ny\nz\n")
    ∷ ((255 ∷ codes "a\n", 255 ∷ codes "\n" ++ 0 ∷ codes "\n"), 0 ∷ codes "\n" ++ 255 ∷ codes "\n" ++ 255 ∷ codes "a\n")
    ∷ ((codes "100\n102\n104\n106\n108\n110\n112\n114\n116\n118\n120\n122\n124\n126\n128\n130\n132\n134\n136\n138\n140\n142\n144\n146\n148\n150\n152\n154\n156\n158\n160\n162\n164\n166\n168\n170\n172\n174\n176\n178\n180\n182\n184\n186\n188\n190\n192\n194\n196\n198\n200\n202\n204\n206\n208\n210\n212\n214\n216\n218\n220\n222\n224\n226\n228\n230\n232\n234\n236\n238\n240\n242\n244\n246\n248", codes "101\n103\n105\n107\n109\n111\n113\n115\n117\n119\n121\n123\n125\n127\n129\n131\n133\n135\n137\n139\n141\n143\n145\n147\n149\n151\n153\n155\n157\n159\n161\n163\n165\n167\n169\n171\n173\n175\n177\n179\n181\n183\n185\n187\n189\n191\n193\n195\n197\n199\n201\n203\n205\n207\n209\n211\n213\n215\n217\n219\n221\n223\n225\n227\n229\n231\n233\n235\n237\n239\n241\n243\n245\n247\n249"), codes "100\n101\n102\n103\n104\n105\n106\n107\n108\n109\n110\n111\n112\n113\n114\n115\n116\n117\n118\n119\n120\n121\n122\n123\n124\n125\n126\n127\n128\n129\n130\n131\n132\n133\n134\n135\n136\n137\n138\n139\n140\n141\n142\n143\n144\n145\n146\n147\n148\n149\n150\n151\n152\n153\n154\n155\n156\n157\n158\n159\n160\n161\n162\n163\n164\n165\n166\n167\n168\n169\n170\n171\n172\n173\n174\n175\n176\n177\n178\n179\n180\n181\n182\n183\n184\n185\n186\n187\n188\n189\n190\n191\n192\n193\n194\n195\n196\n197\n198\n199\n200\n201\n202\n203\n204\n205\n206\n207\n208\n209\n210\n211\n212\n213\n214\n215\n216\n217\n218\n219\n220\n221\n222\n223\n224\n225\n226\n227\n228\n229\n230\n231\n232\n233\n234\n235\n236\n237\n238\n239\n240\n241\n242\n243\n244\n245\n246\n247\n248\n249\n")
    ∷ []

unions : Answers union_text union_cases
unfolding opened
unions = refl

-- ---- the text of the lines of the first text that the second lacks: what is answered, and what is left in place

abbrev difference_text : List ℕ × List ℕ → List ℕ
difference_text c = text_of (difference (set_of c.0) (set_of c.1))

abbrev difference_cases : List ((List ℕ × List ℕ) × List ℕ)
difference_cases =
    (([], codes "a\n"), [])
    ∷ ((codes "a\n", []), codes "a\n")
    ∷ ((codes "a\nb\nc\n", codes "b\nd\n"), codes "a\nc\n")
    ∷ ((codes "a\nab\n", codes "ab\na\n"), [])
    ∷ ((codes "a\nb\nc\n", codes "b\n"), codes "a\nc\n")
    ∷ ((codes "a\nb\nc\n", codes "c\nd\n"), codes "a\nb\n")
    ∷ []

differences : Answers difference_text difference_cases
unfolding opened
differences = refl

-- ---- the text of the set to which lines were added, and what is no line

abbrev added_text : List (List ℕ) → List ℕ
added_text lines = text_of (union [] lines)

abbrev added_cases : List (List (List ℕ) × List ℕ)
added_cases =
    (codes "1700000003s X C" ∷ codes "1700000001s 1 B" ∷ codes "1700000002s 0 B" ∷ codes "1700000004s 1 B" ∷ codes "1700000002s 1 A" ∷ codes "1700000001s 1 B" ∷ [], codes "1700000001s 1 B\n1700000002s 0 B\n1700000002s 1 A\n1700000003s X C\n1700000004s 1 B\n")
    ∷ (codes "b" ∷ (codes "a b" ++ 13 ∷ []) ∷ codes "a" ∷ [], codes "a\na b" ++ 13 ∷ codes "\nb\n")
    ∷ []

added : Answers added_text added_cases
unfolding opened
added = refl

empty_is_no_line : IsLine [] → ⊥
empty_is_no_line line = line.some refl

two_lines_are_no_line : IsLine (codes "a\nb") → ⊥
two_lines_are_no_line line = line.single (inr (inl refl))

-- ---- whether a line is in the set of a text

abbrev is_in_set : List ℕ × List ℕ → Bool
is_in_set c = has_line (set_of c.0) c.1

abbrev has_cases : List ((List ℕ × List ℕ) × Bool)
has_cases =
    ((codes "a\nb\n", codes "b"), true)
    ∷ ((codes "a\nb\n", codes "a\nb"), false)
    ∷ ((codes "a\n", codes "ab"), false)
    ∷ ((codes "a\n", []), false)
    ∷ []

has : Answers is_in_set has_cases
unfolding opened
has = refl

-- ---- the bundle of both branches

abbrev merged_text : Files × Files → List ℕ
merged_text c = bundle_text (merged_branch c.0 c.1)

abbrev merged_cases : List ((Files × Files) × List ℕ)
merged_cases =
    (([], []), codes "annex-bundle 1\n")
    ∷ (((codes "a", codes "1" ∷ []) ∷ [], (codes "b", []) ∷ []), codes "annex-bundle 1\nfile 2 a\n1\nfile 0 b\n")
    ∷ (((codes "a", []) ∷ (codes "b", codes "1" ∷ codes "3" ∷ []) ∷ [], (codes "b", codes "2" ∷ codes "3" ∷ []) ∷ (codes "c", codes "4" ∷ []) ∷ []), codes "annex-bundle 1\nfile 0 a\nfile 6 b\n1\n2\n3\nfile 2 c\n4\n")
    ∷ (((codes "z", codes "1" ∷ []) ∷ [], (codes "a", codes "1" ∷ []) ∷ (codes "z", codes "1" ∷ []) ∷ []), codes "annex-bundle 1\nfile 2 a\n1\nfile 2 z\n1\n")
    ∷ []

merged : Answers merged_text merged_cases
unfolding opened
merged = refl

-- ---- the bundle of a branch in which a file has other lines

replaced : bundle_text (with_file ((codes "p", []) ∷ (codes "q", codes "1" ∷ codes "2" ∷ []) ∷ []) (codes "q") (set_of (codes "3"))) ≡ codes "annex-bundle 1\nfile 0 p\nfile 2 q\n3\n"
unfolding opened
replaced = refl

-- ---- the bundle of a branch in which a file got these lines, and they were taken off again. A file without lines stays
-- a file.

abbrev taken_off : Files → List ℕ → List (List ℕ) → Files
taken_off files path lines = let all = merged_file files path lines in with_file all path (difference (lines_at all path) lines)

abbrev taken_off_text : Files × List ℕ × List ℕ → List ℕ
taken_off_text c = bundle_text (taken_off c.0 c.1 (set_of c.2))

abbrev taken_off_cases : List ((Files × List ℕ × List ℕ) × List ℕ)
taken_off_cases =
    (((codes "p", codes "2" ∷ []) ∷ (codes "q", codes "1" ∷ codes "3" ∷ []) ∷ [], codes "q", codes "2\n4\n"), codes "annex-bundle 1\nfile 2 p\n2\nfile 4 q\n1\n3\n")
    ∷ (((codes "q", codes "1" ∷ codes "2" ∷ []) ∷ [], codes "q", codes "2\n3\n"), codes "annex-bundle 1\nfile 2 q\n1\n")
    ∷ (((codes "q", []) ∷ [], codes "q", codes "1\n"), codes "annex-bundle 1\nfile 0 q\n")
    ∷ (([], codes "q", codes "1\n"), codes "annex-bundle 1\nfile 0 q\n")
    ∷ []

lines_taken_off : Answers taken_off_text taken_off_cases
unfolding opened
lines_taken_off = refl

-- ---- the bundle of a branch in which a file got these lines, and then what it had before. A new file goes.

abbrev put_back : Files → List ℕ → List (List ℕ) → Files
put_back files path lines = with_back (merged_file files path lines) path (file_at files path)

abbrev put_back_text : Files × List ℕ × List ℕ → List ℕ
put_back_text c = bundle_text (put_back c.0 c.1 (set_of c.2))

abbrev put_back_cases : List ((Files × List ℕ × List ℕ) × List ℕ)
put_back_cases =
    (((codes "q", codes "1" ∷ codes "2" ∷ []) ∷ [], codes "q", codes "3\n"), codes "annex-bundle 1\nfile 4 q\n1\n2\n")
    ∷ (((codes "q", []) ∷ [], codes "q", codes "3\n"), codes "annex-bundle 1\nfile 0 q\n")
    ∷ (((codes "p", codes "1" ∷ []) ∷ [], codes "q", codes "3\n"), codes "annex-bundle 1\nfile 2 p\n1\n")
    ∷ []

files_put_back : Answers put_back_text put_back_cases
unfolding opened
files_put_back = refl

-- ---- the log file at a path. The directories must be the key's; those of a chunk are those of the key without it.

abbrev file_cases : List (List ℕ × LogFile)
file_cases =
    (codes "trust.log", Of kinds.Trust)
    ∷ (codes "uuid.log", Of kinds.Uuid)
    ∷ (codes "group.log", Of kinds.Group)
    ∷ (codes "preferred-content.log", Of kinds.Preferred)
    ∷ (codes "required-content.log", Of kinds.Required)
    ∷ (codes "group-preferred-content.log", Of kinds.GroupPreferred)
    ∷ (codes "numcopies.log", Of kinds.Numcopies)
    ∷ (codes "mincopies.log", Of kinds.Mincopies)
    ∷ (codes "975/c65/WORM-s3--abc.log", Location (codes "WORM-s3--abc"))
    ∷ (codes "e4d/ab8/WORM-s14-m1600000001--f1.mp3.log", Location (codes "WORM-s14-m1600000001--f1.mp3"))
    ∷ (codes "remote.log", Other (codes "remote.log"))
    ∷ (codes "trust.log2", Other (codes "trust.log2"))
    ∷ ([], Other [])
    ∷ (codes "975/c65/WORM-s3--abc", Other (codes "975/c65/WORM-s3--abc"))
    ∷ (codes "975/c65/WORM-s3--abd.log", Other (codes "975/c65/WORM-s3--abd.log"))
    ∷ (codes "WORM-s3--abc.log", Other (codes "WORM-s3--abc.log"))
    ∷ (codes "975/c65/WORM--&.log", Other (codes "975/c65/WORM--&.log"))
    ∷ (codes "de8/f84/WORM-s9--a.log", Location (codes "WORM-s9--a"))
    ∷ (codes "de8/f84/WORM-s9-S3-C2--a.log", Location (codes "WORM-s9-S3-C2--a"))
    ∷ []

files : Answers file_of file_cases
unfolding opened
files = refl
