-- A test at each number below a bound: what it says of every such number, once it is computed.
use Rattle.std.proofs.Common.{◌≡◌, ℕ, zero, suc, ◌<◌, Bool, true, ◌&&◌, refl}
use Rattle.std.proofs.lemmas.Bool.Decides.{Decides-below_and}

abbrev pub upto : ℕ → (ℕ → Bool) → Bool
upto zero f = true
upto (suc n) f = f n && upto n f

pub upto_at : (n : ℕ) (f : ℕ → Bool) → upto n f ≡ true → (k : ℕ) → k < n → f k ≡ true
upto_at n f = (Decides-below_and f (λ k. f k ≡ true) (λ m. upto m f) (λ k. (λ t. t, λ t. t)) refl (λ m. refl) n).0
