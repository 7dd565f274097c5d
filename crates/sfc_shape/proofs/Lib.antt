mod StableOrder
mod FiringOrder
mod Steps
mod NumberSteps
mod AssociationSteps
mod EntrySteps
