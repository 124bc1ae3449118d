-- Products and sums of shared polynomials are shared, and runs on their coefficients end, for any number of keys.
use Prim.Native.Nat.{ℕ}
use Rattle.settings.specs.Sizes.{width_of}
use Rattle.runs.proofs.Answers.{fips_high}
use Rattle.runs.proofs.Theorem.{every_run_ends}
use Rattle.products.specs.Shared.{coefficients, inputs_at}
use Rattle.products.specs.Theorems.{ProductsJoin, SumsJoin, InputsMatch, RunsOnCoefficients, HighOfProduct}
use Rattle.products.proofs.Products.{multiplied}
use Rattle.products.proofs.Sums.{summed}
use Rattle.products.proofs.Inputs.{matching}

module _ (k : ℕ) where
  pub products_join : ProductsJoin k
  products_join = multiplied k

  pub sums_join : SumsJoin k
  sums_join = summed k

  pub inputs_match : InputsMatch k
  inputs_match = matching k

  pub runs_on_coefficients : RunsOnCoefficients k
  runs_on_coefficients s serial keys0 keys1 fixed place inside secret server phone draw p possible w start calls carried =
      let n = s.shape.n in
      let m = inputs_match s place inside keys0 keys1 secret server phone p in
      rw m.missing_is
      (every_run_ends k s serial keys0 keys1 fixed (coefficients n place secret) (inputs_at n (width_of k) place server) draw
      m.secret_is m.shares_are possible w start calls carried)

  pub high_of_product : HighOfProduct k
  high_of_product s serial keys0 keys1 fixed high place inside public secret server phone draw a p out0 out1 lent0 lent1 possible w start calls carried =
      let joined = (products_join keys0 keys1 public secret server phone a p out0 out1 lent0 lent1).joins in
      let ended = runs_on_coefficients s serial keys0 keys1 fixed place inside _ _ _ draw joined possible w start calls carried in
      record {
        at_server = ended.0;
        at_phone = ended.1;
        by_fips = fips_high s _ fixed.settings high (inputs_match s place inside keys0 keys1 _ _ _ joined).secret_is;
      }
