-- A test that is passed, and an answer that is given just where a test is passed.
use Rattle.std.proofs.Common.{◌≡◌, Bool, true, false, cond, T, Some, None, is_some, refl}

pub is_so : (b : Bool) → T b → b ≡ true
is_so true t = refl
is_so false t = absurd t

pub some_told : {M : Type 0} (b : Bool) (m : M) → b ≡ is_some (cond b (Some m) None)
some_told true m = refl
some_told false m = refl
