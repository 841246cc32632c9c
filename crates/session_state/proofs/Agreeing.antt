-- Records that agree with holds go on to, as the holds are kept.
use Rattle.std.proofs.Common.{◌≡◌, List, [], ◌∷◌, map, Option, refl, sym, ap, ◌∙◌}
use Rattle.run_data.specs.declared.row.Hold.{Hold}
use Rattle.object_store.specs.declared.keeper.HoldRecord.{HoldRecord}
use Rattle.content_lock.specs.Stored.{Agrees, label_in, label_of, record_of}

labels : (hs : List Hold) → map label_in (map record_of hs) ≡ map label_of hs
labels [] = refl
labels (h ∷ hs) = λ i. label_of h ∷ labels hs i

pub agrees_on : (hs now : List Hold) (known : Option (List HoldRecord)) → map record_of now ≡ map record_of hs → Agrees known hs → Agrees known now
agrees_on hs now known stored agrees x is = agrees x is ∙ sym (labels hs) ∙ ap (map label_in) (sym stored) ∙ labels now
