-- Calls that are answered one after the other.
use Rattle.std.specs.Prelude.{◌≡◌, ◌⊎◌, ◌+◌, ℕ, Bool, List, [], ◌∷◌, ◌++◌, IsTrue, Option, Some, None, Result, Ok, length}
use Rattle.std.proofs.Common.{arith, refl, sym, ap, ◌∙◌, append-nil, append_assoc}
use Rattle.zone_choice.specs.Sane.{KeepsShape}
use Rattle.zone_translator.specs.View.{DiskView}
use Rattle.zone_translator.specs.declared.fault.DiskFault.{DiskFault}
use Rattle.disk_calls.specs.declared.call.CallFault.{CallFault}
use Rattle.disk_calls.specs.declared.call.Asked.{Asked}
use Rattle.disk_calls.specs.Serves.{Ends, Obeys, ObeysAll, Serves}
use Rattle.disk_calls.specs.Talk.{Becomes, Exchange, OnlyPasses, Talk, turned, with_answer}

-- the calls that were answered before any of these
abbrev pub before : Talk → List Exchange
before was = with_answer was.past was.asked was.passed (Ok tt)

pub obeys-more : (read_only : Bool) (old middle new : DiskView) (calls : List Exchange) (call : Exchange)
    → ObeysAll read_only old calls middle → Obeys read_only middle call new → ObeysAll read_only old (calls ++ call ∷ []) new
obeys-more read_only old middle new [] call here next = (new, rw here at next, refl)
obeys-more read_only old middle new (x ∷ xs) call all next = (all.0, all.1, obeys-more read_only all.0 middle new xs call all.2 next)

one-more : (calls : List Exchange) (call : Exchange) → length (calls ++ call ∷ []) ≡ length calls + 1
one-more [] call = refl
one-more (x ∷ xs) call = let more : length (xs ++ call ∷ []) ≡ length xs + 1 = one-more xs call in omega (arith, more)

-- Some calls were answered, but for the last one, whose answer is to be told.
pub record SoFar (read_only : Bool) (first : DiskView) (was is : Talk) (told : Result (Unit {0}) CallFault) (disk : DiskView) (count : ℕ) : Type 0 where
  pub calls : List Exchange
  pub many : length calls ≡ count
  pub known : IsTrue is.known → IsTrue was.known
  pub past : IsTrue is.known → with_answer is.past is.asked is.passed told ≡ before was ++ calls
  pub obeys : IsTrue disk.drive.clean → IsTrue is.known → ObeysAll read_only first calls disk
  pub shape : KeepsShape first.drive disk.drive

pub so-far-none : (read_only : Bool) (first : DiskView) (was : Talk) → SoFar read_only first was was (Ok tt) first 0
so-far-none read_only first was = record {
  calls = [];
  many = refl;
  known = λ known. known;
  past = λ known. sym (append-nil (before was));
  obeys = λ clean known. refl;
  shape = record { geometry = refl; trusted = λ clean. clean; unfailing = λ runs. runs };
}

pub so-far-more : (read_only : Bool) (first old new : DiskView) (was is asks after : Talk) (told answer : Result (Unit {0}) CallFault) (asked : Asked) (count : ℕ)
    → SoFar read_only first was is told old count → Becomes is (turned is told (Some asked)) asks
    → OnlyPasses asks after
    → (IsTrue new.drive.clean → IsTrue after.known → Obeys read_only old (record { asked = asked; passed = after.passed; told = answer }) new)
    → KeepsShape old.drive new.drive → SoFar read_only first was after answer new (count + 1)
so-far-more read_only first old new was is asks after told answer asked count so turns talk obeys shape =
    let call : Exchange = record { asked = asked; passed = after.passed; told = answer } in
    record {
      calls = so.calls ++ call ∷ [];
      many = one-more so.calls call ∙ ap (λ (n : ℕ). n + 1) so.many;
      known = λ known. so.known (turns (talk known).0).0;
      past = λ known. rw (talk known).1 (rw (turns (talk known).0).1 (ap (λ (past : List Exchange). past ++ call ∷ []) (so.past (turns (talk known).0).0) ∙ append_assoc (before was) so.calls (call ∷ [])));
      obeys = λ clean known. obeys-more read_only first old new so.calls call (so.obeys (shape.trusted clean) (turns (talk known).0).0) (obeys clean known);
      shape = record {
        geometry = shape.geometry ∙ so.shape.geometry;
        trusted = λ clean. so.shape.trusted (shape.trusted clean);
        unfailing = λ runs. so.shape.unfailing (shape.unfailing runs);
      };
    }

-- no call is left, and the disk is flushed
pub so-far-ends : (read_only : Bool) (first middle new : DiskView) (was is last : Talk) (told : Result (Unit {0}) CallFault) (next : Option Asked)
    (result : Result (Unit {0}) DiskFault) (count : ℕ) → SoFar read_only first was is told middle count
    → ((next ≡ None) ⊎ (count ≡ 18446744073709551615)) → Becomes is (turned is told next) last
    → (IsTrue new.drive.clean → Ends read_only middle result new) → KeepsShape middle.drive new.drive → IsTrue new.drive.clean → IsTrue last.known
    → Serves read_only first was last result new
so-far-ends read_only first middle new was is last told next result count so more turns ends shape clean known = record {
  calls = so.calls;
  past = rw (turns known).1 (so.past (turns known).0);
  middle = middle;
  obeys = so.obeys (shape.trusted clean) (turns known).0;
  no_more = rw (turns known).1 (rw so.many more);
  silent = rw (turns known).1 refl;
  ends = ends clean;
}

pub so-far-shape : (read_only : Bool) (first middle new : DiskView) (was is : Talk) (told : Result (Unit {0}) CallFault) (count : ℕ)
    → SoFar read_only first was is told middle count → KeepsShape middle.drive new.drive → KeepsShape first.drive new.drive
so-far-shape read_only first middle new was is told count so shape = record {
  geometry = shape.geometry ∙ so.shape.geometry;
  trusted = λ clean. so.shape.trusted (shape.trusted clean);
  unfailing = λ runs. so.shape.unfailing (shape.unfailing runs);
}
