-- What holds of the enhanced format.
use Rattle.std.specs.Prelude.{◌≡◌, ℕ, ◌<◌, List, map, length, Some, refl}
use Rattle.std.proofs.Common.{sym, ap₂, subst, lit<}
use Rattle.std.specs.List.{AllByRecursion}
use Rattle.checks.specs.Checks.{check6}
use Rattle.checks.proofs.Width.{check_below}
use Rattle.serial.specs.declared.pair.Pair.{Pair}
use Rattle.formats.specs.declared.enhanced.EnhancedMessage.{EnhancedMessage}
use Rattle.formats.specs.declared.enhanced.Configuration.{Configuration}
use Rattle.formats.specs.declared.enhanced.Configuration.TheVariants.{Data12, Data16}
use Rattle.formats.specs.declared.layout.Position.TheVariants.{Bit3}
use Rattle.std.proofs.lemmas.Option.{cond_some}
use Rattle.formats.specs.Positions.{read, number, spelled}
use Rattle.formats.specs.Layout.{lawful_by}
use Rattle.formats.specs.Enhanced.{layout, id_bits, data_bits, configuration_of, shaped, content, enhanced, id_limit, data_limit, Within, sent, ToldWithinTheFields, EachMessageHasItsList}
use Rattle.formats.proofs.Numbers.{bits, number_bits, spelled_below}
use Rattle.formats.proofs.Layouts.{all_spelled, told_as}

check6_below : (vs : List ℕ) → AllByRecursion (λ v. v < 64) vs → check6 vs < 64
unfolding check6
check6_below vs small = check_below 6 0b011001 21 vs (lit< tt) (lit< tt) small

shaped_within : (c : Configuration) (ps : List Pair) → Within (shaped c ps)
shaped_within Data12 ps = record { id_fits = spelled_below ps (id_bits Data12); data_fits = spelled_below ps (data_bits Data12) }
shaped_within Data16 ps = record { id_fits = spelled_below ps (id_bits Data16); data_fits = spelled_below ps (data_bits Data16) }

pub told_within_the_fields : ToldWithinTheFields
told_within_the_fields ps m e =
    let is : content ps ≡ m = (cond_some (lawful_by layout check6 ps) (content ps) m e).1 in
    subst Within is (shaped_within (configuration_of (read ps (Bit3 7))) ps)

pub groups_wide : AllByRecursion (λ at. length at ≡ 6) layout.covered
groups_wide = (refl, (refl, (refl, (refl, tt))))

abbrev message : Configuration → ℕ → ℕ → EnhancedMessage
message c i d = record { configuration = c; id = i; «data» = d }

-- the check of what is sent has room where it is sent
check_spelled : (ps : List Pair) → number (bits 6 (check6 (map (spelled ps) layout.covered))) ≡ check6 (map (spelled ps) layout.covered)
check_spelled ps =
    let groups : List ℕ = map (spelled ps) layout.covered in
    number_bits 6 (check6 groups)
    (check6_below groups (all_spelled 6 ps layout.covered groups_wide))

listed : (c : Configuration) (i d : ℕ) → i < id_limit c → d < data_limit c → enhanced.told (sent (message c i d)) ≡ Some (message c i d)
listed Data12 i d h k =
    let m : EnhancedMessage = message Data12 i d in
    told_as layout check6 content (sent m) m refl (sym (check_spelled (sent m))) (ap₂ (message Data12) (number_bits 8 i h) (number_bits 12 d k))
listed Data16 i d h k =
    let m : EnhancedMessage = message Data16 i d in
    told_as layout check6 content (sent m) m refl (sym (check_spelled (sent m))) (ap₂ (message Data16) (number_bits 4 i h) (number_bits 16 d k))

pub each_message_has_its_list : EachMessageHasItsList
each_message_has_its_list m w = listed m.configuration m.id m.«data» w.id_fits w.data_fits
