-- What a bundle that is cut short begins with.
use Rattle.std.proofs.Common.{◌≡◌, ◌⊎◌, inl, inr, ℕ, zero, suc, ◌+◌, ◌*◌, ◌<◌, ◌≤◌, List, [], ◌∷◌, ◌++◌, length, arith, refl, sym, ap, subst, ◌∙◌, append_assoc, length-append, codes}
use Rattle.std.specs.List.{flat_map}
use Rattle.std.proofs.lemmas.List.{append-nil, nil_from_length, append_cancel_left}
use Rattle.std.proofs.lemmas.Bool.Decides.{eqb_tells}
use Rattle.annex_base.specs.ByteOrder.{text_cmp, Before, IsInOrder}
use Rattle.annex_base.specs.Lists.{Each}
use Rattle.annex_base.specs.Lines.{newline, space}
use Rattle.union_merge.specs.LineSet.{IsLine, IsLineSet, text_of}
use Rattle.union_merge.specs.Branch.{Files, IsBranch}
use Rattle.branch_bundle.specs.Bundle.{IsByte, number_text, file_text, bundle_text, BeginsBundle}
use Rattle.branch_bundle.specs.Parts.{IsFree, IsCut, counted_file, file_of, fill, Follow, BeginsLines, BeginsPath, BeginsNumber, BeginsFile, BeginsFiles, MayFollow}
use Rattle.branch_bundle.proofs.FileLemmas.{Lines, empty-is_set, IsFile, Paths}
use Rattle.annex_base.proofs.TextOrder.{BeforeAll, order_nil, order_cons, order_head, order_tail, BeforeAll-trans}
use Rattle.branch_bundle.proofs.NumberLemmas.{IsDigit, number_text-one, number_text-more, number_text-first, number_text-is}
use Rattle.annex_base.proofs.Lists.{Each-append, Each-left, Each-right, two_cuts}
use Rattle.branch_bundle.proofs.TextLemmas.{word, file_text-file_of, file_of-same, cut_same, number_free, word_same}
use Rattle.branch_bundle.proofs.FillLemmas.{fill-bytes, fill-free, length-fill, before_fill, before_filled}
use Rattle.branch_bundle.proofs.EndLemmas.{free_front, text_of-cons, after_set, begins_lines-large, some_line}

-- ---- some lines of n bytes

some_lines : (n : ℕ) → (n ≡ 1 → ⊥) → (lines : Lines) × IsLineSet lines × (length (text_of lines) ≡ n) × Each IsByte (text_of lines)
some_lines zero other = ([], empty-is_set, refl, tt)
some_lines (suc zero) other = absurd (other refl)
some_lines (suc (suc n)) other =
    let line = fill (suc n) in (
      line ∷ [],
      after_set (line ∷ []) (refl, fill-free (suc n), tt),
      omega (arith, ap length (text_of-cons line []), length-append line (newline ∷ []), length-fill (suc n)),
      subst (Each IsByte) (sym (text_of-cons line [])) (Each-append IsByte line (newline ∷ []) (fill-bytes (suc n)) (omega arith, tt)),
    )

-- lines have a byte and a newline at least
not_one : (lines : Lines) → IsLineSet lines → length (text_of lines) ≡ 1 → ⊥
not_one [] set long = omega (arith, long)
not_one (line ∷ lines) set long = set.each.0.some (nil_from_length line (omega (arith, long, ap length (text_of-cons line lines), length-append line (newline ∷ text_of lines))))

-- ---- a path and lines

-- a front that has no newline
pub path_free-told : (n : ℕ) (before text : List ℕ) → Each IsByte before → IsFree newline text → BeginsPath n before text → (n ≡ 1 → ⊥) × Before before (text ++ fill (length before + 1))
path_free-told n before text bytes free begins =
    let h = free_front newline text begins.rest begins.path (text_of begins.lines) free (sym begins.spelled) in (
      λ one. not_one begins.lines begins.set (begins.long ∙ one),
      before_filled before text h.0 (length before + 1) bytes (omega arith) (ap (text_cmp before) (sym h.1) ∙ begins.below),
    )

free_append : (b : ℕ) (xs ys : List ℕ) → IsFree b xs → IsFree b ys → IsFree b (xs ++ ys)
free_append b [] ys first second among = second among
free_append b (x ∷ xs) ys first second among = elim among [ inl same ↦ first (inl same) | inr later ↦ free_append b xs ys (λ h. first (inr h)) second later ]

pub path_free-found : (n m : ℕ) (before text : List ℕ) → IsFree newline text → (n ≡ 1 → ⊥) → Before before (text ++ fill m) → BeginsPath n before text
path_free-found n m before text free other less =
    let some = some_lines n other in
    record {
      path = text ++ fill m;
      lines = some.0;
      rest = fill m ++ newline ∷ text_of some.0;
      bytes = Each-append IsByte (fill m) (newline ∷ text_of some.0) (fill-bytes m) (omega arith, some.3);
      below = less;
      line = some_line before (text ++ fill m) less (free_append newline text (fill m) free (fill-free m));
      set = some.1;
      long = some.2;
      spelled = append_assoc text (fill m) (newline ∷ text_of some.0);
    }

-- a whole path, and a front of the lines
pub path_cut-told : (n : ℕ) (before text front back : List ℕ) → IsCut newline text front back → BeginsPath n before text → Before before front × IsLine front × BeginsLines n back
path_cut-told n before text front back cut begins =
    let h = cut_same newline begins.path (text_of begins.lines) front (back ++ begins.rest) begins.line.single cut.free
    (begins.spelled ∙ ap (λ (w : List ℕ). w ++ begins.rest) cut.spelled ∙ append_assoc front (newline ∷ back) begins.rest) in (
      subst (Before before) h.0 begins.below,
      subst IsLine h.0 begins.line,
      record { lines = begins.lines; rest = begins.rest; bytes = begins.bytes; set = begins.set; long = begins.long; spelled = h.1 },
    )

pub path_cut-found : (n : ℕ) (before text front back : List ℕ) → IsCut newline text front back → Before before front → BeginsLines n back → BeginsPath n before text
path_cut-found n before text front back cut less begins = record {
  path = front;
  lines = begins.lines;
  rest = begins.rest;
  bytes = begins.bytes;
  below = less;
  line = some_line before front less cut.free;
  set = begins.set;
  long = begins.long;
  spelled = ap (λ (w : List ℕ). front ++ newline ∷ w) begins.spelled ∙ sym (append_assoc front (newline ∷ back) begins.rest) ∙ ap (λ (w : List ℕ). w ++ begins.rest) (sym cut.spelled);
}

-- ---- a number, a path and lines

-- a front of the digits of a number: nothing, or a number's digits
pub number_free-told : (before text : List ℕ) → IsFree space text → BeginsNumber before text → (text ≡ []) ⊎ ((n : ℕ) × (text ≡ number_text n))
number_free-told before text free begins =
    let n = length (text_of begins.lines) in
    let h = free_front space text begins.rest (number_text n) (begins.path ++ newline ∷ text_of begins.lines) free (sym begins.spelled) in
    front_of n text h.0 h.1 where
      front_of : (n : ℕ) (text c : List ℕ) → number_text n ≡ text ++ c → (text ≡ []) ⊎ ((m : ℕ) × (text ≡ number_text m))
      front_of n [] c is = inl refl
      front_of zero (d ∷ ds) c is =
          let e : 48 ∷ [] ≡ d ∷ (ds ++ c) = sym (number_text-one 0 (omega arith)) ∙ is in
          let head : 48 ≡ d = cc in
          let none : [] ≡ ds ++ c = cc in
          inr (0, ap (λ (w : ℕ). w ∷ ds) (sym head) ∙ ap (λ (w : List ℕ). 48 ∷ w) (nil_from_length ds (omega (arith, ap length none, length-append ds c))) ∙ sym (number_text-one 0 (omega arith)))
      front_of (suc n) (d ∷ ds) c is =
          let first = number_text-first (suc n) (omega arith) in
          let e : first.0 ∷ first.1 ≡ d ∷ (ds ++ c) = sym first.2 ∙ is in
          let head : first.0 ≡ d = cc in
          let tail : first.1 ≡ ds ++ c = cc in
          let m = number_text-is d ds (omega (arith, first.3, head)) (omega (arith, first.4, head)) (Each-left IsDigit ds c (subst (Each IsDigit) tail first.5)) in
          inr (m.0, sym m.2)

-- a number of more digits, which isn't 1
more_digits : (text : List ℕ) → (text ≡ []) ⊎ ((n : ℕ) × (text ≡ number_text n)) → (n : ℕ) × (c : List ℕ) × (n ≡ 1 → ⊥) × (number_text n ≡ text ++ c) × Each IsByte c
more_digits text (inl none) = (0, 48 ∷ [], (λ one. absurd (omega (arith, one))), number_text-one 0 (omega arith) ∙ ap (λ (w : List ℕ). w ++ 48 ∷ []) (sym none), (omega arith, tt))
more_digits text (inr number) = elim (zero_or_more number.0) [
  | inl none ↦ (number.0, [], (λ one. absurd (omega (arith, none, one))), sym number.1 ∙ sym (append-nil text), tt)
  | inr some ↦ (number.0 * 10 + 0, 48 ∷ [], (λ one. absurd (omega (arith, some, one))), number_text-more number.0 0 some (omega arith) ∙ ap (λ (w : List ℕ). w ++ 48 ∷ []) (sym number.1), (omega arith, tt))
] where
  zero_or_more : (n : ℕ) → (n ≡ 0) ⊎ (0 < n)
  zero_or_more zero = inl refl
  zero_or_more (suc n) = inr (omega arith)

pub number_free-found : (before text : List ℕ) → Each IsByte before → (text ≡ []) ⊎ ((n : ℕ) × (text ≡ number_text n)) → BeginsNumber before text
number_free-found before text bytes digits =
    let more = more_digits text digits in
    let path : BeginsPath more.0 before [] = path_free-found more.0 (length before + 1) before [] (λ none. none) more.2 (before_filled-nil before bytes) in
    record {
      path = path.path;
      lines = path.lines;
      rest = more.1 ++ space ∷ (path.path ++ newline ∷ text_of path.lines);
      bytes = Each-append IsByte more.1 (space ∷ (path.path ++ newline ∷ text_of path.lines)) more.4 (omega arith, subst (Each IsByte) (sym path.spelled) path.bytes);
      below = path.below;
      line = path.line;
      set = path.set;
      spelled =
          ap (λ k. number_text k ++ space ∷ (path.path ++ newline ∷ text_of path.lines)) path.long
          ∙ ap (λ (w : List ℕ). w ++ space ∷ (path.path ++ newline ∷ text_of path.lines)) more.3
          ∙ append_assoc text more.1 (space ∷ (path.path ++ newline ∷ text_of path.lines));
    } where
      before_filled-nil : (q : List ℕ) → Each IsByte q → Before q ([] ++ fill (length q + 1))
      before_filled-nil q bytes = before_filled q [] (fill (length q + 1)) (length q + 1) bytes (omega arith) (before_fill q (length q + 1) bytes (omega arith))

-- a whole number, and a front of a path and lines
pub number_cut-told : (before text front back : List ℕ) → IsCut space text front back → BeginsNumber before text → (n : ℕ) × (front ≡ number_text n) × BeginsPath n before back
number_cut-told before text front back cut begins =
    let n = length (text_of begins.lines) in
    let h = cut_same space (number_text n) (begins.path ++ newline ∷ text_of begins.lines) front (back ++ begins.rest) (number_free n) cut.free
    (begins.spelled ∙ ap (λ (w : List ℕ). w ++ begins.rest) cut.spelled ∙ append_assoc front (space ∷ back) begins.rest) in (
      n,
      sym h.0,
      record {
        path = begins.path;
        lines = begins.lines;
        rest = begins.rest;
        bytes = begins.bytes;
        below = begins.below;
        line = begins.line;
        set = begins.set;
        long = refl;
        spelled = h.1;
      },
    )

pub number_cut-found : (n : ℕ) (before text front back : List ℕ) → IsCut space text front back → front ≡ number_text n → BeginsPath n before back → BeginsNumber before text
number_cut-found n before text front back cut number begins = record {
  path = begins.path;
  lines = begins.lines;
  rest = begins.rest;
  bytes = begins.bytes;
  below = begins.below;
  line = begins.line;
  set = begins.set;
  spelled =
      ap (λ k. number_text k ++ space ∷ (begins.path ++ newline ∷ text_of begins.lines)) begins.long
      ∙ ap (λ (w : List ℕ). w ++ space ∷ (begins.path ++ newline ∷ text_of begins.lines)) (sym number)
      ∙ ap (λ (w : List ℕ). front ++ space ∷ w) begins.spelled
      ∙ sym (append_assoc front (space ∷ back) begins.rest) ∙ ap (λ (w : List ℕ). w ++ begins.rest) (sym cut.spelled);
}

-- a text has a first such byte, or none
pub data Cut (b : ℕ) (text : List ℕ) : Type 0 where
  whole : IsFree b text → Cut b text
  parted : (front back : List ℕ) → IsCut b text front back → Cut b text

pub cut_or_free : (b : ℕ) (text : List ℕ) → Cut b text
cut_or_free b [] = whole (λ none. none)
cut_or_free b (x ∷ xs) = elim (eqb_tells x b) [
  | inl same ↦ parted [] xs (record { spelled = ap (λ (w : ℕ). w ∷ xs) same.1; free = λ none. none })
  | inr other ↦ elim (cut_or_free b xs) [
    | whole free ↦ whole (λ among. elim among [ inl first ↦ other.1 (sym first) | inr later ↦ free later ])
    | parted front back cut ↦ parted (x ∷ front) back (record {
      spelled = ap (λ (w : List ℕ). x ∷ w) cut.spelled;
      free = λ among. elim among [ inl first ↦ other.1 (sym first) | inr later ↦ cut.free later ];
    })
  ]
]

-- where the lines have many bytes, how many changes nothing
pub path-large : (m n : ℕ) (before text : List ℕ) → Each IsByte before → 2 * length text + 2 ≤ m → 2 * length text + 2 ≤ n → BeginsPath m before text → BeginsPath n before text
path-large m n before text bytes long room begins = elim (cut_or_free newline text) [
  | whole free ↦
      let h = path_free-told m before text bytes free begins in
      path_free-found n (length before + 1) before text free (λ one. absurd (omega (arith, room, one))) h.1
  | parted front back cut ↦
      let h = path_cut-told m before text front back cut begins in
      let short : length back ≤ length text = omega (arith, ap length cut.spelled, length-append front (newline ∷ back)) in
      path_cut-found n before text front back cut h.0 (begins_lines-large m n back (omega (arith, long)) (omega (arith, room)) h.2)
]

-- ---- a file

-- of two fronts of a text, one is a front of the other
fronts : (xs us ys vs : List ℕ) → xs ++ us ≡ ys ++ vs → ((c : List ℕ) × (xs ≡ ys ++ c)) ⊎ ((c : List ℕ) × (ys ≡ xs ++ c))
fronts xs us ys vs is = elim (two_cuts xs us ys vs is) [ inl less ↦ inr (less.0, less.1) | inr more ↦ inl (more.0, more.1) ]

pub file_word-told : (before text : List ℕ) → ((rest : List ℕ) → text ≡ word ++ rest → ⊥) → BeginsFile before text → (c : List ℕ) × (word ≡ text ++ c)
file_word-told before text none begins = elim (fronts text begins.rest word (counted_file (length (text_of begins.lines)) begins.path (text_of begins.lines)) (sym begins.spelled)) [
  | inl more ↦ absurd (none more.0 more.1)
  | inr less ↦ less
]

word_bytes : Each IsByte word
word_bytes = (omega arith, (omega arith, (omega arith, (omega arith, (omega arith, tt)))))

pub file_word-found : (before text c : List ℕ) → Each IsByte before → word ≡ text ++ c → BeginsFile before text
file_word-found before text c bytes is =
    let number = number_free-found before [] bytes (inl refl) in
    let numbers = counted_file (length (text_of number.lines)) number.path (text_of number.lines) in
    record {
      path = number.path;
      lines = number.lines;
      rest = c ++ numbers;
      bytes = Each-append IsByte c numbers (Each-right IsByte text c (subst (Each IsByte) is word_bytes)) (subst (Each IsByte) (sym number.spelled) number.bytes);
      below = number.below;
      line = number.line;
      set = number.set;
      spelled = ap (λ (w : List ℕ). w ++ numbers) is ∙ append_assoc text c numbers;
    }

pub file_number-told : (before text rest : List ℕ) → text ≡ word ++ rest → BeginsFile before text → BeginsNumber before rest
file_number-told before text rest is begins = record {
  path = begins.path;
  lines = begins.lines;
  rest = begins.rest;
  bytes = begins.bytes;
  below = begins.below;
  line = begins.line;
  set = begins.set;
  spelled = word_same _ _ (begins.spelled ∙ ap (λ (w : List ℕ). w ++ begins.rest) is ∙ append_assoc word rest begins.rest);
}

pub file_number-found : (before text rest : List ℕ) → text ≡ word ++ rest → BeginsNumber before rest → BeginsFile before text
file_number-found before text rest is begins = record {
  path = begins.path;
  lines = begins.lines;
  rest = begins.rest;
  bytes = begins.bytes;
  below = begins.below;
  line = begins.line;
  set = begins.set;
  spelled = ap (λ (w : List ℕ). word ++ w) begins.spelled ∙ sym (append_assoc word rest begins.rest) ∙ ap (λ (w : List ℕ). w ++ begins.rest) (sym is);
}

-- ---- files

pub files_none-found : (before text : List ℕ) → text ≡ [] → BeginsFiles before text
files_none-found before text none = record { files = []; rest = []; bytes = tt; follow = tt; spelled = ap (λ (w : List ℕ). w ++ []) none }

pub files_file-found : (before text : List ℕ) → BeginsFile before text → BeginsFiles before text
files_file-found before text begins = record {
  files = (begins.path, begins.lines) ∷ [];
  rest = begins.rest;
  bytes = begins.bytes;
  follow = (begins.below, begins.line, begins.set, tt);
  spelled = sym begins.spelled ∙ sym (file_text-file_of begins.path begins.lines) ∙ sym (append-nil (file_text (begins.path, begins.lines)));
}

-- without a whole file in front, there is a front of one
pub files_file-told : (before text : List ℕ) → ((path lines rest : List ℕ) → IsLine path → text ≡ file_of path lines ++ rest → ⊥) → BeginsFiles before text → (text ≡ []) ⊎ BeginsFile before text
files_file-told before text none begins = step begins.files begins.follow begins.spelled where
  step : (files : Files) → Follow before files → text ++ begins.rest ≡ flat_map file_text files → (text ≡ []) ⊎ BeginsFile before text
  step [] follow is = inl (nil_from_length text (omega (arith, ap length is, length-append text begins.rest)))
  step (f ∷ files) follow is =
      let spelled : text ++ begins.rest ≡ file_of f.0 (text_of f.1) ++ flat_map file_text files = is ∙ ap (λ (w : List ℕ). w ++ flat_map file_text files) (file_text-file_of f.0 f.1) in
      elim (fronts text begins.rest (file_of f.0 (text_of f.1)) (flat_map file_text files) spelled) [
        | inl more ↦ absurd (none f.0 (text_of f.1) more.0 follow.1 more.1)
        | inr less ↦
            let rest : begins.rest ≡ less.0 ++ flat_map file_text files = append_cancel_left text begins.rest (less.0 ++ flat_map file_text files) (spelled ∙ ap (λ (w : List ℕ). w ++ flat_map file_text files) less.1 ∙ append_assoc text less.0 (flat_map file_text files)) in
            inr (record {
              path = f.0;
              lines = f.1;
              rest = less.0;
              bytes = Each-left IsByte less.0 (flat_map file_text files) (subst (Each IsByte) rest begins.bytes);
              below = follow.0;
              line = follow.1;
              set = follow.2;
              spelled = less.1;
            })
      ]

-- a whole file in front may come there, and what follows it begins the files after it
pub files_more-told : (before text path lines rest : List ℕ) → IsLine path → text ≡ file_of path lines ++ rest → BeginsFiles before text → MayFollow before path lines × BeginsFiles path rest
files_more-told before text path lines rest line is begins = step begins.files begins.follow begins.spelled where
  no_front : (path lines rest more : List ℕ) → (file_of path lines ++ rest) ++ more ≡ [] → ⊥
  no_front path lines rest more e = cc

  step : (files : Files) → Follow before files → text ++ begins.rest ≡ flat_map file_text files → MayFollow before path lines × BeginsFiles path rest
  step [] follow e = absurd (no_front path lines rest begins.rest (ap (λ (w : List ℕ). w ++ begins.rest) (sym is) ∙ e))
  step (f ∷ files) follow e =
      let h = file_of-same path lines (rest ++ begins.rest) f.0 (text_of f.1) (flat_map file_text files) line.single follow.1.single
      (sym (append_assoc (file_of path lines) rest begins.rest) ∙ ap (λ (w : List ℕ). w ++ begins.rest) (sym is) ∙ e ∙ ap (λ (w : List ℕ). w ++ flat_map file_text files) (file_text-file_of f.0 f.1)) in (
        record { below = ap (text_cmp before) h.0 ∙ follow.0; lines = f.1; set = follow.2; spelled = h.1 },
        record { files = files; rest = begins.rest; bytes = begins.bytes; follow = subst (λ w. Follow w files) (sym h.0) follow.3; spelled = h.2 },
      )

pub files_more-found : (before text path lines rest : List ℕ) → IsLine path → text ≡ file_of path lines ++ rest → MayFollow before path lines → BeginsFiles path rest → BeginsFiles before text
files_more-found before text path lines rest line is may begins = record {
  files = (path, may.lines) ∷ begins.files;
  rest = begins.rest;
  bytes = begins.bytes;
  follow = (may.below, line, may.set, begins.follow);
  spelled =
      ap (λ (w : List ℕ). w ++ begins.rest) is ∙ append_assoc (file_of path lines) rest begins.rest
      ∙ ap (λ (w : List ℕ). file_of path lines ++ w) begins.spelled
      ∙ ap (λ (w : List ℕ). file_of path w ++ flat_map file_text begins.files) may.spelled
      ∙ ap (λ (w : List ℕ). w ++ flat_map file_text begins.files) (sym (file_text-file_of path may.lines));
}

-- ---- a bundle

abbrev pub header : List ℕ
header = codes "annex-bundle 1" ++ newline ∷ []

follow_all : (before : List ℕ) (files : Files) → Follow before files → BeforeAll before (Paths files) × IsInOrder (Paths files) × Each IsFile files
follow_all before [] follow = (tt, order_nil, tt)
follow_all before (f ∷ files) follow =
    let rest = follow_all f.0 files follow.3 in
    ((follow.0, BeforeAll-trans before f.0 (Paths files) follow.0 rest.0), order_cons f.0 (Paths files) rest.0 rest.1, ((follow.1, follow.2), rest.2))

follow_branch : (files : Files) → Follow [] files → IsBranch files
follow_branch files follow = let h = follow_all [] files follow in record { sorted = h.1; each = h.2 }

chained : (before : List ℕ) (files : Files) → BeforeAll before (Paths files) → IsInOrder (Paths files) → Each IsFile files → Follow before files
chained before [] below sorted each = tt
chained before (f ∷ files) below sorted each = (below.0, each.0.0, each.0.1, chained f.0 files (order_head f.0 (Paths files) sorted) (order_tail f.0 (Paths files) sorted) each.1)

nothing_before : (path : List ℕ) → IsLine path → Before [] path
nothing_before [] line = absurd (line.some refl)
nothing_before (b ∷ bs) line = refl

first_of_all : (files : Files) → Each IsFile files → BeforeAll [] (Paths files)
first_of_all [] each = tt
first_of_all (f ∷ files) each = (nothing_before f.0 each.0.0, first_of_all files each.1)

branch_follow : (files : Files) → IsBranch files → Follow [] files
branch_follow files is = chained [] files (first_of_all files is.each) is.sorted is.each

bundle_text-header : (files : Files) → bundle_text files ≡ header ++ flat_map file_text files
bundle_text-header files = refl

pub bundle_files-told : (text rest : List ℕ) → text ≡ header ++ rest → BeginsBundle text → BeginsFiles [] rest
bundle_files-told text rest is begins = record {
  files = begins.files;
  rest = begins.rest;
  bytes = begins.bytes;
  follow = branch_follow begins.files begins.bundle.branch;
  spelled = append_cancel_left header (rest ++ begins.rest) (flat_map file_text begins.files) (sym (append_assoc header rest begins.rest) ∙ ap (λ (w : List ℕ). w ++ begins.rest) (sym is) ∙ begins.bundle.spelled ∙ bundle_text-header begins.files);
}

pub bundle_files-found : (text rest : List ℕ) → text ≡ header ++ rest → BeginsFiles [] rest → BeginsBundle text
bundle_files-found text rest is begins = record {
  files = begins.files;
  rest = begins.rest;
  bytes = begins.bytes;
  bundle = record {
    branch = follow_branch begins.files begins.follow;
    spelled = ap (λ (w : List ℕ). w ++ begins.rest) is ∙ append_assoc header rest begins.rest ∙ ap (λ (w : List ℕ). header ++ w) begins.spelled ∙ sym (bundle_text-header begins.files);
  };
}

pub bundle_header-told : (text : List ℕ) → ((rest : List ℕ) → text ≡ header ++ rest → ⊥) → BeginsBundle text → (c : List ℕ) × (header ≡ text ++ c)
bundle_header-told text none begins = elim (fronts text begins.rest header (flat_map file_text begins.files) (begins.bundle.spelled ∙ bundle_text-header begins.files)) [
  | inl more ↦ absurd (none more.0 more.1)
  | inr less ↦ less
]

header_bytes : Each IsByte header
header_bytes = (omega arith, (omega arith, (omega arith, (omega arith, (omega arith, (omega arith, (omega arith, (omega arith, (omega arith, (omega arith, (omega arith, (omega arith, (omega arith, (omega arith, (omega arith, tt)))))))))))))))

pub bundle_header-found : (text c : List ℕ) → header ≡ text ++ c → BeginsBundle text
bundle_header-found text c is = record {
  files = [];
  rest = c;
  bytes = Each-right IsByte text c (subst (Each IsByte) is header_bytes);
  bundle = record { branch = follow_branch [] tt; spelled = sym is };
}
