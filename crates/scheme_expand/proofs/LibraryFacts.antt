-- What is computed of the library.
use Rattle.std.proofs.Common.{refl, sym, subst}
use Rattle.datum_form.specs.Data.{Items}
use Rattle.prelude_text.specs.Text.{library_text}
use Rattle.datum_reader.specs.Answer.{Reads}
use Rattle.scheme_expand.specs.Laws.{IsLibrary}
use Rattle.scheme_expand.proofs.LibraryData.{trees, library, unbroken, only}

is_library : IsLibrary library
unfolding library trees
is_library = record {
  unbroken = unbroken;
  definitions = refl;
  names = refl;
  distinct = refl;
  defined = refl;
  first = refl;
  operations = refl;
}

pub each_library : (ds : Items) → Reads library_text ds → IsLibrary ds
each_library ds h = let P : Items → Type 0 = λ is. IsLibrary is in subst P (sym (only ds h)) is_library
