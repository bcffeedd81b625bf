-- One step of a definition after the other.
use Rattle.std.proofs.Common.{◌≡◌, refl, Ok, Err}
use Rattle.std.specs.Prelude.{Result, IfOk}
use Rattle.smap_record.specs.declared.fault.ReadError.{ReadError}
use Rattle.smap_record.specs.declared.fault.ReadError.TheVariants.{Refused, Memory}
use Rattle.smap_record.specs.Results.{Fails}
use Rattle.smap_record.specs.Faults.{Checked, ◌>>=◌}

-- a value was there at each step, if there is one at the end
pub bound : {A B F : Type 0} (r : Result A F) (f : A → Result B F) (y : B) → (r >>= f) ≡ Ok y
    → (x : A) × (r ≡ Ok x) × (f x ≡ Ok y)
bound (Ok x) f y h = (x, refl, h)
bound (Err e) f y h = absurd cc

-- what holds of each step's value holds at the end
pub if_ok : {A B F : Type 0} (P : A → Type 0) (Q : B → Type 0) (r : Result A F) (f : A → Result B F)
    → IfOk r P → ((x : A) → P x → IfOk (f x) Q) → IfOk (r >>= f) Q
if_ok P Q (Ok x) f one other = other x one
if_ok P Q (Err e) f one other = tt

-- steps of steps are steps
pub bind_assoc : {A B C F : Type 0} (r : Result A F) (f : A → Result B F) (g : B → Result C F)
    → ((r >>= f) >>= g) ≡ (r >>= λ x. f x >>= g)
bind_assoc (Ok x) f g = refl
bind_assoc (Err e) f g = refl

-- the first step has a value
pub then_ok : {A B : Type 0} (r : Checked A) (x : A) (f : A → Checked B) (whole : Checked B)
    → r ≡ Ok x → f x ≡ whole → (r >>= f) ≡ whole
then_ok r x f whole is next = rw is next

-- the first step has the fault
pub first_fails : {A B : Type 0} (error : ReadError) (r : Checked A) (f : A → Checked B)
    → Fails error r → Fails error (r >>= f)
first_fails (Refused fault) r f is = rw is refl
first_fails Memory r f is = tt
