-- What holds at each turn of the loops of `words::put_more_words`.
use Rattle.std.proofs.Common.{◌≡◌, ◌++◌, ◌∷◌, take}
use Rattle.std.specs.List.{flat_map}
use Rattle.run_text.proofs.words.put_more_words.Given as goal

abbrev pub invariant-loop-item : goal.invariant-loop-item
invariant-loop-item g l = l.out.items ≡ l.fn.out.items ++ flat_map (λ item. l.between ∷ g.W.ItemWords.word_of l.words item) (take l.item-index l.items)
