-- What a test says of each number below a limit, where antt computes it.
use Rattle.std.proofs.Common.{◌≡◌, ℕ, zero, suc, ◌<◌, Bool, true, ◌&&◌, refl}
use Rattle.std.proofs.lemmas.Bool.Decides.{Decides-below_and}

unfoldable pub every : (ℕ → Bool) → ℕ → Bool
every p zero = true
every p (suc n) = p n && every p n

pub below : (p : ℕ → Bool) (n : ℕ) → every p n ≡ true → (k : ℕ) → k < n → p k ≡ true
unfolding every
below p n e k h = (Decides-below_and p (λ v. p v ≡ true) (every p) (λ v. ((λ e. e), (λ e. e))) refl (λ n. refl) n).0 e k h
