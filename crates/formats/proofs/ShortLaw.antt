-- What holds of the short format.
use Rattle.std.specs.Prelude.{◌≡◌, ℕ, ◌<◌, List, map, length, refl}
use Rattle.std.proofs.Common.{sym, ap₂, subst}
use Rattle.std.specs.List.{AllByRecursion}
use Rattle.checks.specs.Checks.{check4}
use Rattle.checks.proofs.Found.{check4_below}
use Rattle.serial.specs.declared.pair.Pair.{Pair}
use Rattle.std.proofs.lemmas.Option.{cond_some}
use Rattle.formats.specs.Positions.{spelled}
use Rattle.formats.specs.Layout.{lawful_by}
use Rattle.formats.specs.Short.{layout, id_bits, data_bits, content, Within, sent, ToldWithinTheFields, EachMessageHasItsList}
use Rattle.formats.proofs.Numbers.{number_bits, spelled_below}
use Rattle.formats.proofs.Layouts.{all_spelled, told_as}

pub told_within_the_fields : ToldWithinTheFields
told_within_the_fields ps m e =
    let is : content ps ≡ m = (cond_some (lawful_by layout check4 ps) (content ps) m e).1 in
    subst Within is (record { id_fits = spelled_below ps id_bits; data_fits = spelled_below ps data_bits })

pub groups_wide : AllByRecursion (λ at. length at ≡ 4) layout.covered
groups_wide = (refl, (refl, (refl, tt)))

pub each_message_has_its_list : EachMessageHasItsList
each_message_has_its_list m w =
    let ps : List Pair = sent m in
    let groups : List ℕ = map (spelled ps) layout.covered in
    let small : check4 groups < 16 = check4_below groups (all_spelled 4 ps layout.covered groups_wide) in
    told_as layout check4 content ps m refl (sym (number_bits 4 (check4 groups) small))
    (ap₂ (λ (i d : ℕ). record { id = i; «data» = d }) (number_bits 4 m.id w.id_fits) (number_bits 8 m.«data» w.data_fits))
