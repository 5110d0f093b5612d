use Rattle.std.proofs.Common.{◌≡◌, ℕ, suc, ◌+◌, ◌*◌, ◌/◌, ◌%◌, ◌≤◌, List, [], ◌∷◌, ◌++◌, take, get_or, length, set, refl, ap, sym, ◌∙◌, add-one, append_assoc, arith, length-set}
use Rattle.std.proofs.lemmas.List.{take_all, take_more_set}
use Rattle.std.proofs.lemmas.Grind.{take-set_at}
use Rattle.listing.specs.Slots.{slots, template, mended, nop}
use Rattle.text.specs.Layout.{size_of}
use Rattle.text.specs.Image.{words, word_bytes, word_of, filled}
use Rattle.assembler.specs.Measures.{mend_at}
use Rattle.assembler.proofs.standing.Standing.write_words.Goals as goal

-- two bytes more
two_more : (xs : List ℕ) (n m a b : ℕ) → m ≡ n + 2 → n + 2 ≤ length xs → take m (set (set xs n a) (n + 1) b) ≡ take n xs ++ (a ∷ b ∷ [])
two_more xs n m a b e h =
    take-set_at (set xs n a) (n + 1) m b (omega arith) (omega (arith, length-set xs n a))
    ∙ ap (λ ys. ys ++ b ∷ []) (take_more_set xs n a (omega arith))
    ∙ append_assoc (take n xs) (a ∷ []) (b ∷ [])

pub loop-k-init : goal.loop-k-init
unfolding words
loop-k-init c = refl

pub loop-k-preserved : goal.loop-k-preserved
unfolding words
loop-k-preserved c =
    let s = c.args.self.now in
    let k = c.loop-k.k in
    let xs = c.loop-k.out in
    let v = c.args.number.number in
    let at = s.walk.place.text in
    let ss = slots s.walk.place.result c.args.body s.«record» in
    let w = c.filled_word.result in
    let mend = ap (λ m. m.mend) s.adds ∙ ap (λ m. mend_at m s.walk.place s.«record») c.requires.words in
    let slot : c.slot-slot.result ≡ get_or ss k nop =
    c.slot-slot.ensures ∙ ap (λ m. get_or (mended m (template c.args.body s.«record»)) k nop) mend in
    let is : w ≡ word_of (filled v (at + 2 * k) (get_or ss k nop)) =
    c.filled_word.ensures ∙ ap (λ o. word_of (filled v (at + 2 * k) o)) slot in
    rw add-one (
    ap (λ bytes. take (2 * suc k) (set (set xs (2 * k) (get_or bytes 0 0)) (2 * k + 1) (get_or bytes 1 0))) c.to_be_bytes.ensures
    ∙ two_more xs (2 * k) (2 * suc k) (w / 256 % 256) (w % 256) (omega arith) (omega arith)
    ∙ (λ j. c.loop-k.invariant j ++ word_bytes (is j)))

pub returns : goal.returns
returns c =
    let s = c.args.self.now in
    let k = c.loop-k.k in
    let ss = slots s.walk.place.result c.args.body s.«record» in
    let size : length c.args.out.now ≡ 2 * length ss =
    c.requires.room ∙ ap (λ m. m.size) s.adds ∙ ap (λ m. size_of m s.walk.place s.«record») c.requires.words in
    let whole : k ≡ length ss = omega arith in
    sym (take_all (2 * k) c.loop-k.out (omega arith)) ∙ c.loop-k.invariant ∙ ap (words c.args.number.number s.walk.place.text ss) whole
