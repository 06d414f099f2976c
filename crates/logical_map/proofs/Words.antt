-- The words of a zone's places follow one another.
use Rattle.std.proofs.Common.{rules, ◌≡◌, ℕ, ◌+◌, ◌-◌, ◌*◌, ◌/◌, ◌%◌, ◌<◌, ◌≤◌, ◌==◌, false, ltb, refl, sym, ap, ◌∙◌, inl, inr, arith}
use Rattle.std.proofs.Math.Nat.{le-div_iff_mul-le}
use Rattle.std.proofs.lemmas.Bool.{cases_eq, cases_lt, eq-eqb, le-ltb, lt-ltb}
use Rattle.std.proofs.lemmas.Bool.Decides.{eqb_tells}
use Rattle.std.proofs.lemmas.Nat.{div-mul-add}
use Rattle.logical_map.specs.Live.{lies_in}
use Rattle.logical_map.specs.Pages.{place_of}
use Rattle.logical_map.specs.Words.{is_word_from}

-- an address from the start of a zone on is one of its own, or it is past it
within : (address size zone : ℕ) → 0 < size → zone * size ≤ address → ltb (address - zone * size) size ≡ (address / size == zone)
within address size zone some after = elim (cases_lt (address - zone * size) size) as (λ _. ltb (address - zone * size) size ≡ (address / size == zone)) [
  | inl lt ↦ lt-ltb (address - zone * size) size lt ∙ sym (eq-eqb (address / size) zone (ap (λ n. n / size) (omega (arith, after)) ∙ div-mul-add zone size (address - zone * size) lt))
  | inr past ↦
      let next : (zone + 1) * size ≤ address = omega (arith, after, past) in
      let above = (le-div_iff_mul-le some).1 next in
      le-ltb (address - zone * size) size past ∙ elim (eqb_tells (address / size) zone) as (λ _. false ≡ (address / size == zone)) [
        | inl same ↦ absurd (omega (arith, above, same.1))
        | inr other ↦ sym other.0
      ]
]

-- one before the start of a zone is none of its own
before : (address size zone : ℕ) → 0 < size → address < zone * size → (address / size == zone) ≡ false
before address size zone some early = elim (eqb_tells (address / size) zone) as (λ _. (address / size == zone) ≡ false) [
  | inl same ↦
      let reached : zone ≤ address / size = omega (arith, same.1) in
      absurd (omega (arith, early, (le-div_iff_mul-le some).0 reached))
  | inr other ↦ other.0
]

-- of two words for each address, one that stands for an address of a zone
between : (word address size zone : ℕ) → 0 < size → 2 * address < word → word ≤ 2 * address + 2 → is_word_from (zone * (2 * size) + 1) (2 * size) word ≡ (address / size == zone)
between word address size zone some low high = elim (cases_lt address (zone * size)) as (λ _. is_word_from (zone * (2 * size) + 1) (2 * size) word ≡ (address / size == zone)) [
  | inl early ↦ rw (lt-ltb word (zone * (2 * size) + 1) (omega (arith, early, high))) (sym (before address size zone some early))
  | inr after ↦ rw (le-ltb word (zone * (2 * size) + 1) (omega (arith, after, low))) (elim (cases_lt (address - zone * size) size) as (λ _. ltb (word - (zone * (2 * size) + 1)) (2 * size) ≡ (address / size == zone)) [
    | inl inside ↦ lt-ltb (word - (zone * (2 * size) + 1)) (2 * size) (omega (arith, inside, after, low, high)) ∙ sym (lt-ltb (address - zone * size) size inside) ∙ within address size zone some after
    | inr past ↦ le-ltb (word - (zone * (2 * size) + 1)) (2 * size) (omega (arith, past, after, low, high)) ∙ sym (le-ltb (address - zone * size) size past) ∙ within address size zone some after
  ])
]

-- whether a word is one of a zone's is whether its place is there
pub word-in : (word size zone : ℕ) → 0 < size → is_word_from (zone * (2 * size) + 1) (2 * size) word ≡ lies_in size zone (place_of word)
word-in word size zone some = elim (cases_eq word 0) as (λ _. is_word_from (zone * (2 * size) + 1) (2 * size) word ≡ lies_in size zone (place_of word)) [
  | inl none ↦ rw none (rw (lt-ltb 0 (zone * (2 * size) + 1) (omega arith)) refl)
  | inr there ↦ elim (cases_eq (word % 2) 1) as (λ _. is_word_from (zone * (2 * size) + 1) (2 * size) word ≡ lies_in size zone (place_of word)) [
    | inl odd ↦ between word (word / 2) size zone some (omega (arith, odd)) (omega (arith, odd)) ∙ search (rules, there, odd)
    | inr even ↦ between word (word / 2 - 1) size zone some (omega (arith, even, there)) (omega (arith, even, there)) ∙ search (rules, there, even)
  ]
]
