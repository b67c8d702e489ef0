-- Numbers that are each within their range, and all that they make.
use Rattle.std.proofs.Common.{◌≡◌, Option, Some, None, refl}
use Rattle.std.specs.Prelude.{◌&&◌}
use Rattle.std.specs.Option.{is_some}
use Rattle.control_words.specs.Words.{◌>>=◌}
use Rattle.control.specs.declared.word_fault.Check.{Check}
use Rattle.control.specs.declared.word_fault.Check.TheVariants.{Forms, Ranges}
use Rattle.control.specs.Forms.{asked}

pub two : {A B C : Type 0} (check : Check) (a : Option A) (b : Option B) (make : A → B → C) → (asked check (is_some a) && asked check (is_some b)) ≡ asked check (is_some (a >>= λ u. b >>= λ v. Some (make u v)))
two Forms a b make = refl
two Ranges None b make = refl
two Ranges (Some u) None make = refl
two Ranges (Some u) (Some v) make = refl

pub three : {A B C D : Type 0} (check : Check) (a : Option A) (b : Option B) (c : Option C) (make : A → B → C → D) → ((asked check (is_some a) && asked check (is_some b)) && asked check (is_some c)) ≡ asked check (is_some (a >>= λ x. b >>= λ y. c >>= λ z. Some (make x y z)))
three Forms a b c make = refl
three Ranges None b c make = refl
three Ranges (Some x) None c make = refl
three Ranges (Some x) (Some y) None make = refl
three Ranges (Some x) (Some y) (Some z) make = refl

pub four : {A B C D E : Type 0} (check : Check) (a : Option A) (b : Option B) (c : Option C) (d : Option D) (make : A → B → C → D → E) → (((asked check (is_some a) && asked check (is_some b)) && asked check (is_some c)) && asked check (is_some d)) ≡ asked check (is_some (a >>= λ u. b >>= λ v. c >>= λ w. d >>= λ x. Some (make u v w x)))
four Forms a b c d make = refl
four Ranges None b c d make = refl
four Ranges (Some u) None c d make = refl
four Ranges (Some u) (Some v) None d make = refl
four Ranges (Some u) (Some v) (Some w) None make = refl
four Ranges (Some u) (Some v) (Some w) (Some x) make = refl

pub five : {A B C D E F : Type 0} (check : Check) (a : Option A) (b : Option B) (c : Option C) (d : Option D) (e : Option E) (make : A → B → C → D → E → F) → ((((asked check (is_some a) && asked check (is_some b)) && asked check (is_some c)) && asked check (is_some d)) && asked check (is_some e)) ≡ asked check (is_some (a >>= λ u. b >>= λ v. c >>= λ w. d >>= λ x. e >>= λ y. Some (make u v w x y)))
five Forms a b c d e make = refl
five Ranges None b c d e make = refl
five Ranges (Some u) None c d e make = refl
five Ranges (Some u) (Some v) None d e make = refl
five Ranges (Some u) (Some v) (Some w) None e make = refl
five Ranges (Some u) (Some v) (Some w) (Some x) None make = refl
five Ranges (Some u) (Some v) (Some w) (Some x) (Some y) make = refl

pub six : {A B C D E F G : Type 0} (check : Check) (a : Option A) (b : Option B) (c : Option C) (d : Option D) (e : Option E) (f : Option F) (make : A → B → C → D → E → F → G) → (((((asked check (is_some a) && asked check (is_some b)) && asked check (is_some c)) && asked check (is_some d)) && asked check (is_some e)) && asked check (is_some f)) ≡ asked check (is_some (a >>= λ u. b >>= λ v. c >>= λ w. d >>= λ x. e >>= λ y. f >>= λ z. Some (make u v w x y z)))
six Forms a b c d e f make = refl
six Ranges None b c d e f make = refl
six Ranges (Some u) None c d e f make = refl
six Ranges (Some u) (Some v) None d e f make = refl
six Ranges (Some u) (Some v) (Some w) None e f make = refl
six Ranges (Some u) (Some v) (Some w) (Some x) None f make = refl
six Ranges (Some u) (Some v) (Some w) (Some x) (Some y) None make = refl
six Ranges (Some u) (Some v) (Some w) (Some x) (Some y) (Some z) make = refl
