-- What a call that may run out of memory answered, beside what a line says (own).
use Rattle.std.specs.Prelude.{◌≡◌, ℕ, List, Option, Some, None, Result, Ok, Err}
use Rattle.script_words.specs.Places.{Cursor}
use Rattle.script_forms.specs.declared.fault.LineFault.{LineFault}
use Rattle.script_forms.specs.declared.fault.LineFault.TheVariants.{Wrong, Past, NoMemory}

-- the answer, seen by view, is what the line says, unless memory ran out
abbrev pub Gives : {X Y : Type 0} → (X → Y) → Result X LineFault → Result Y LineFault → Type 0
Gives view (Ok x) says = says ≡ Ok (view x)
Gives view (Err (Wrong byte)) says = says ≡ Err (Wrong byte)
Gives view (Err (Past quantity)) says = says ≡ Err (Past quantity)
Gives view (Err NoMemory) says = Unit {0}

-- the same of a reader that goes on behind what it read
abbrev pub Reads : {X Y : Type 0} → (X → Y) → Result X LineFault → Cursor → Result (Y × Cursor) LineFault → Type 0
Reads view (Ok x) after says = says ≡ Ok (view x, after)
Reads view (Err (Wrong byte)) after says = says ≡ Err (Wrong byte)
Reads view (Err (Past quantity)) after says = says ≡ Err (Past quantity)
Reads view (Err NoMemory) after says = Unit {0}
