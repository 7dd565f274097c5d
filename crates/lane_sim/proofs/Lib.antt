pub mod LaneLaws
pub mod RunLaws
pub mod ChoiceLaws
pub mod StepLaws
pub mod LayoutLaws
pub mod PlanLaws
