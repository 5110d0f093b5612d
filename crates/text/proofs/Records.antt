-- The bytes of each record stand in the image at its address, with its index as their origin.
use Rattle.std.proofs.Common.{◌≡◌, ℕ, zero, suc, ◌+◌, ◌-◌, ◌/◌, ◌<◌, ◌≤◌, cond, ◌⊎◌, List, [], ◌∷◌, ◌++◌, length, get_or, replicate, pos, Some, Option, unwrap_or, sym, refl, ap, ◌∙◌, subst, inl, inr, append_assoc, append-nil, arith, length-append}
use lib.ListN.{length-replicate}
use Rattle.std.proofs.lemmas.List.{get_or_append_left, get_or-append-add}
use Rattle.std.proofs.lemmas.Bool.{cases_eq}
use Rattle.listing.specs.declared.records.Record.{Record}
use Rattle.listing.specs.declared.items.Section.{Section}
use Rattle.listing.specs.declared.items.Section.TheVariants as section
use Rattle.listing.specs.Reading.{record_at}
use Rattle.listing.specs.Meaning.{meaning}
use Rattle.text.specs.declared.places.Place.{Place}
use Rattle.text.specs.declared.places.Mark.{Mark}
use Rattle.text.specs.Layout.{laid}
use Rattle.text.specs.Image.{address, same, value, portion, section_bytes, text_length, image}
use Rattle.text.specs.Origins.{Cause, End, Origin, causes_of, at_index, portion_origins, section_origins, text_origins, image_origins}
use Rattle.text.specs.Hazards.{nowhere}
use Rattle.text.specs.Sizes.{address_of, own_bytes, Stands}
use Rattle.text.proofs.Lengths.{section_length, section_origins_length, item_length, item_origins_length, at_index_length, text_origins_long}

-- a list that another begins with
record Begins {A : Type 0} (t u : List A) : Type 0 where
  more : List A
  is : u ≡ t ++ more

-- a list that grows at its end
module _ {A : Type 0} (f x : ℕ → List A) (step : (m : ℕ) → f (suc m) ≡ f m ++ x m) where
  begins : (n m : ℕ) → n ≤ m → Begins (f n) (f m)
  begins n zero h = let e : n ≡ 0 = omega arith in record { more = []; is = ap f (sym e) ∙ sym (append-nil (f n)) }
  begins n (suc m) h = go (cases_eq n (suc m)) (λ le. begins n m le)
    where
      go : (n ≡ suc m) ⊎ (n ≡ suc m → ⊥) → (n ≤ m → Begins (f n) (f m)) → Begins (f n) (f (suc m))
      go (inl e) back = record { more = []; is = ap f (sym e) ∙ sym (append-nil (f n)) }
      go (inr ne) back = let b = back (omega arith) in record { more = b.more ++ x m; is = step m ∙ ap (λ y. y ++ x m) b.is ∙ append_assoc (f n) b.more (x m) }

-- a part of a list, at an index
pub record Part {A : Type 0} (whole part : List A) (at : ℕ) : Type 0 where
  pub before : List A
  pub behind : List A
  pub long : length before ≡ at
  pub is : whole ≡ before ++ (part ++ behind)

front_part : {A : Type 0} (t part w zs back : List A) (at : ℕ) → Begins (t ++ part) w → length t ≡ at → Part ((w ++ zs) ++ back) part at
front_part t part w zs back at b e = record {
  before = t;
  behind = (b.more ++ zs) ++ back;
  long = e;
  is = ap (λ y. (y ++ zs) ++ back) b.is ∙ ap (λ y. y ++ back) (append_assoc (t ++ part) b.more zs)
      ∙ append_assoc (t ++ part) (b.more ++ zs) back ∙ append_assoc t part ((b.more ++ zs) ++ back);
}

back_part : {A : Type 0} (front t part w : List A) (at n : ℕ) → Begins (t ++ part) w → length front ≡ n → length t ≡ at → Part (front ++ w) part (n + at)
back_part front t part w at n b e e' = record {
  before = front ++ t;
  behind = b.more;
  long = length-append front t ∙ (λ j. e j + e' j);
  is = ap (λ y. front ++ y) (b.is ∙ append_assoc t part b.more) ∙ sym (append_assoc front t (part ++ b.more));
}

-- what the part has at k, the whole has at k more
pub part_at : {A : Type 0} (whole part : List A) (at k : ℕ) (d : A) → Part whole part at → k < length part → get_or whole (at + k) d ≡ get_or part k d
part_at whole part at k d p h =
    ap (λ y. get_or y (at + k) d) p.is ∙ ap (λ j. get_or (p.before ++ (part ++ p.behind)) (j + k) d) (sym p.long)
    ∙ get_or-append-add p.before (part ++ p.behind) k d ∙ get_or_append_left part p.behind d k h

index_of : (n : ℕ) (cs : List Cause) (k : ℕ) → k < length cs → (get_or (at_index n cs) k nowhere).index ≡ n
index_of n [] k h = absurd (omega arith)
index_of n (c ∷ cs) zero h = refl
index_of n (c ∷ cs) (suc k) h = index_of n cs k (omega arith)

module _ (l : List ℕ) (n : ℕ) (r : Record) (lt : n < length l / 8) (e : record_at l n ≡ Some r) where
  count : ℕ
  count = length l / 8

  base : ℕ
  base = text_length l (length l / 8)

  labels : List (Option Mark)
  labels = (laid l (length l / 8)).labels

  p : Place
  p = (laid l n).place

  causes : List Cause
  causes = causes_of (meaning r) (laid l n).place r

  all_bytes : (s : Section) → p.section ≡ s → Begins (section_bytes s base labels l n ++ own_bytes l n r) (section_bytes s base labels l count)
  unfolding section_bytes count base labels p
  all_bytes s at =
      let f : ℕ → List ℕ = section_bytes s base labels l in
      let b = begins f (λ m. portion s base labels (laid l m).place (record_at l m)) (λ m. refl) (suc n) count (omega arith) in
      subst (λ y. Begins y (f count)) (ap (λ y. f n ++ portion s base labels p y) e ∙ go s at) b
    where
      go : (s : Section) → p.section ≡ s → section_bytes s base labels l n ++ cond (same p.section s)
          (own_bytes l n r) [] ≡ section_bytes s base labels l n ++ own_bytes l n r
      go section.Text at = ap (λ s. section_bytes section.Text base labels l n ++ cond (same s section.Text) (own_bytes l n r) []) at
      go section.Data at = ap (λ s. section_bytes section.Data base labels l n ++ cond (same s section.Data) (own_bytes l n r) []) at

  all_origins : (s : Section) → p.section ≡ s → Begins (section_origins s l n ++ at_index n causes) (section_origins s l count)
  unfolding section_origins count p causes
  all_origins s at =
      let f : ℕ → List Origin = section_origins s l in
      let b = begins f (λ m. portion_origins s (laid l m).place (record_at l m) m) (λ m. refl) (suc n) count (omega arith) in
      subst (λ y. Begins y (f count)) (ap (λ y. f n ++ portion_origins s p y n) e ∙ go s at) b
    where
      go : (s : Section) → p.section ≡ s → section_origins s l n ++ cond (same p.section s) (at_index n causes) [] ≡ section_origins s l n ++ at_index n causes
      go section.Text at = ap (λ s. section_origins section.Text l n ++ cond (same s section.Text) (at_index n causes) []) at
      go section.Data at = ap (λ s. section_origins section.Data l n ++ cond (same s section.Data) (at_index n causes) []) at

  place_of : Section → ℕ
  place_of section.Text = p.text
  place_of section.Data = base + p.«data»

  bytes_part : (s : Section) → p.section ≡ s → Part (image l) (own_bytes l n r) (place_of s)
  unfolding count base labels p place_of
  bytes_part section.Text at =
      front_part (section_bytes section.Text base labels l n) (own_bytes l n r) (section_bytes section.Text base labels l count)
      (replicate (base - (laid l count).place.text) 0) (section_bytes section.Data base labels l count) p.text
      (all_bytes section.Text at) (section_length base labels section.Text l n)
  bytes_part section.Data at =
      let t = section_bytes section.Text base labels l count in
      let k = base - (laid l count).place.text in
      let zs : List ℕ = replicate k 0 in
      let long : length (t ++ zs) ≡ base = omega (arith, length-append t zs, length-replicate {A = ℕ} k 0, section_length base labels section.Text l count) in
      back_part (t ++ zs) (section_bytes section.Data base labels l n) (own_bytes l n r) (section_bytes section.Data base labels l count) p.«data» base
      (all_bytes section.Data at) long (section_length base labels section.Data l n)

  origins_part : (s : Section) → p.section ≡ s → Part (image_origins l) (at_index n causes) (place_of s)
  unfolding count base p causes place_of
  origins_part section.Text at =
      front_part (section_origins section.Text l n) (at_index n causes) (section_origins section.Text l count)
      (replicate (base - (laid l count).place.text) (record { index = count; cause = End })) (section_origins section.Data l count) p.text
      (all_origins section.Text at) (section_origins_length section.Text l n)
  origins_part section.Data at =
      back_part (text_origins l) (section_origins section.Data l n) (at_index n causes) (section_origins section.Data l count) p.«data» base
      (all_origins section.Data at) (text_origins_long l) (section_origins_length section.Data l n)

  here_is : (s : Section) → p.section ≡ s → address_of l n ≡ place_of s
  unfolding count base p place_of
  here_is s at = go s at
    where
      go : (s : Section) → p.section ≡ s → address_of l n ≡ place_of s
      go section.Text at = ap (λ s. address base (record { section = s; offset = elim s [ section.Text ↦ p.text | section.Data ↦ p.«data» ] })) at
      go section.Data at = ap (λ s. address base (record { section = s; offset = elim s [ section.Text ↦ p.text | section.Data ↦ p.«data» ] })) at

  -- where the record's bytes stand
  pub own_part : Part (image l) (own_bytes l n r) (address_of l n)
  unfolding p
  own_part = subst (Part (image l) (own_bytes l n r)) (sym (here_is p.section refl)) (bytes_part p.section refl)

  pub stands : Stands l n r
  unfolding p causes
  stands =
      let b = own_part in
      let o = subst (Part (image_origins l) (at_index n causes)) (sym (here_is p.section refl)) (origins_part p.section refl) in
      let v = unwrap_or (value (text_length l (length l / 8)) (laid l (length l / 8)).labels r) (pos 0) in
      let long : length (own_bytes l n r) ≡ length (at_index n causes) = item_length p r v (meaning r) ∙ sym (item_origins_length p r n (meaning r)) in
      record {
        before = b.before;
        behind = b.behind;
        address = b.long;
        stands = b.is;
        origin = λ k h.
            ap (λ x. x.index) (part_at (image_origins l) (at_index n causes) (address_of l n) k nowhere o (omega (arith, long)))
            ∙ index_of n causes k (omega (arith, long, at_index_length n causes));
      }
