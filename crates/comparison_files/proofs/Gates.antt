-- What is known of circuits by the nodes of scans is known of them by what is compared.
use Rattle.std.proofs.Common.{◌≡◌, sym, ap, subst}
use Rattle.node_core.specs.Scans.{ScanData, scan_view}
use Rattle.queries.specs.Comparisons.{Comparison}
use Rattle.comparison_files.specs.declared.accept.Scans.{Scans}
use Rattle.comparison_files.specs.Accepting.{nodes_of}
use Rattle.comparison_files.specs.Held.{Held, comparison_in}
use Rattle.comparison_files.specs.Scans.{AreScansOf}

module _ (held now : Held) (scans : Scans) (is : held ≡ now) (are : AreScansOf (comparison_in now) scans) where
  pub scans_within : AreScansOf (comparison_in held) scans
  scans_within = subst (λ h. AreScansOf (comparison_in h) scans) (sym is) are

  pub by_nodes : (P : Comparison → ScanData → ScanData → Type 0) → P (comparison_in held) (scan_view scans.old) (scan_view scans.new)
      → P (comparison_in now) (nodes_of (comparison_in now).old) (nodes_of (comparison_in now).new)
  by_nodes P known =
      let c = comparison_in held in
      let old_too = subst (λ s. P c s (scan_view scans.new)) scans_within.old_nodes known in
      let both = subst (λ s. P c (nodes_of c.old) s) scans_within.new_nodes old_too in
      subst (λ x. P x (nodes_of x.old) (nodes_of x.new)) (ap comparison_in is) both
